-- Brackets, backslashes and wildcards in a component of a pattern (glob(7)). A position in a text is given by the
-- rest of the text from there on.
use Rattle.std.specs.Prelude.{ℕ, zero, suc, ◌+◌, ◌-◌, Bool, false, not, ◌&&◌, ◌||◌, ◌==◌, nat_lt, List, [], ◌∷◌, find, length, take, drop, slice_index, codes, Option, Some, None, is_none, unwrap_or, option_map, option_and_then, if◌then◌else◌}
use Rattle.std.specs.List.{list_any, flat_map}
use Rattle.std.specs.Option.{option_map_or}
use Rattle.pv_path.specs.Names.{same_bytes}
use Rattle.pv_glob.specs.declared.element.ByteRange.{ByteRange}
use Rattle.pv_glob.specs.declared.element.ByteSet.{ByteSet}
use Rattle.pv_glob.specs.declared.element.Element.{Element}
use Rattle.pv_glob.specs.declared.element.Element.TheVariants.{Byte, Any, Many, OneOf}
use Rattle.pv_glob.specs.declared.pattern_fault.PatternFault.{PatternFault}
use Rattle.pv_glob.specs.declared.pattern_fault.PatternFault.TheVariants as fault

-- The positions at which the parts of a text begin. `part_length` gives the number of bytes of the part at a
-- position. The first `skip` bytes belong to a part before them.
abbrev pub places : (List ℕ → ℕ) → ℕ → List ℕ → List (List ℕ)
places part_length skip [] = []
places part_length (suc skip) (b ∷ text) = places part_length skip text
places part_length zero (b ∷ text) = (b ∷ text) ∷ places part_length (part_length (b ∷ text) - 1) text

-- ---- what is in a bracket

-- Whether a class begins here, as `[:digit:]` does. `[.` and `[=` also count as the beginning of a class.
abbrev pub opens_class : List ℕ → Bool
opens_class [] = false
opens_class (a ∷ []) = false
opens_class (a ∷ b ∷ text) = a == 91 && (b == 58 || b == 46 || b == 61)

-- How many bytes come before the first mark that is followed by `]`.
abbrev pub length_to_mark : ℕ → List ℕ → Option ℕ
length_to_mark mark [] = None
length_to_mark mark (a ∷ []) = None
length_to_mark mark (a ∷ b ∷ text) = if a == mark && b == 93 then Some 0 else option_map (λ n. n + 1) (length_to_mark mark (b ∷ text))

-- How many bytes the class or the other byte has that is at this position in a bracket. A class that does not end
-- has no length.
abbrev pub token_length : List ℕ → Option ℕ
token_length text = if opens_class text then option_map (λ n. n + 4) (length_to_mark (slice_index text 1) (drop 2 text)) else Some 1

-- How many bytes come before the `]` that ends a bracket, if one ends it. A `]` in a class does not end it. The
-- first `skip` bytes are not looked at.
abbrev pub length_to_end : ℕ → List ℕ → Option ℕ
length_to_end skip [] = None
length_to_end (suc skip) (b ∷ text) = option_map (λ n. n + 1) (length_to_end skip text)
length_to_end zero (b ∷ text) = if b == 93 then Some 0 else option_and_then (λ n. option_map (λ m. m + 1) (length_to_end (n - 1) text)) (token_length (b ∷ text))

-- How many bytes a bracket has between its sign of negation and its end. A `]` that comes first is not the end.
abbrev pub body_length : List ℕ → Option ℕ
body_length text = option_and_then (λ n. length_to_end n text) (token_length text)

-- Whether a bracket is negated: it begins with `!` or `^`.
abbrev pub has_sign : List ℕ → Bool
has_sign [] = false
has_sign (b ∷ text) = b == 33 || b == 94

-- How many bytes the sign of negation has: one or none.
abbrev pub sign_length : List ℕ → ℕ
sign_length text = if has_sign text then 1 else 0

-- What is in a bracket, given the text after its `[`: all between the sign of negation and the end. If the bracket
-- has no end, there is nothing.
abbrev pub body_of : List ℕ → Option (List ℕ)
body_of text = option_map (λ n. take n (drop (sign_length text) text)) (body_length (drop (sign_length text) text))

-- Whether a range is here: a byte, `-` and something else. A class does not begin a range.
abbrev pub is_range : List ℕ → Bool
is_range place = not (opens_class place) && nat_lt 2 (length place) && slice_index place 1 == 45

-- How many bytes the item at this position has: a class, a range or a single byte.
abbrev pub item_length : List ℕ → ℕ
item_length place =
    if opens_class place then unwrap_or (token_length place) 1
    else if is_range place then 2 + unwrap_or (token_length (drop 2 place)) 1
    else 1

-- Whether a bad range is here: its end is a class, or below its start.
abbrev pub is_bad_range : List ℕ → Bool
is_bad_range place = is_range place && (opens_class (drop 2 place) || nat_lt (slice_index place 2) (slice_index place 0))

-- The bytes from one to another, both included.
abbrev pub range : ℕ → ℕ → ByteRange
range low high = record { low = low; high = high }

-- The classes, with their bytes in ASCII.
abbrev pub classes : List (List ℕ × List ByteRange)
classes =
    (codes "alnum", range 48 57 ∷ range 65 90 ∷ range 97 122 ∷ [])
    ∷ (codes "alpha", range 65 90 ∷ range 97 122 ∷ [])
    ∷ (codes "blank", range 9 9 ∷ range 32 32 ∷ [])
    ∷ (codes "cntrl", range 0 31 ∷ range 127 127 ∷ [])
    ∷ (codes "digit", range 48 57 ∷ [])
    ∷ (codes "graph", range 33 126 ∷ [])
    ∷ (codes "lower", range 97 122 ∷ [])
    ∷ (codes "print", range 32 126 ∷ [])
    ∷ (codes "punct", range 33 47 ∷ range 58 64 ∷ range 91 96 ∷ range 123 126 ∷ [])
    ∷ (codes "space", range 9 13 ∷ range 32 32 ∷ [])
    ∷ (codes "upper", range 65 90 ∷ [])
    ∷ (codes "xdigit", range 48 57 ∷ range 65 70 ∷ range 97 102 ∷ [])
    ∷ []

-- The bytes of the class with a name, if there is such a class.
abbrev pub class_named : List ℕ → Option (List ByteRange)
class_named name = option_map (λ class. class.1) (find (λ class. same_bytes name class.0) classes)

-- The bytes of the class that is here, if it has the mark `:` and a known name. `[.` and `[=` have none.
abbrev pub class_at : List ℕ → Option (List ByteRange)
class_at place = if slice_index place 1 == 58 then class_named (take (item_length place - 4) (drop 2 place)) else None

-- Whether a class is here that does not exist.
abbrev pub is_bad_class : List ℕ → Bool
is_bad_class place = opens_class place && is_none (class_at place)

-- The bytes of the item that is here, as ranges.
abbrev pub item_ranges : List ℕ → List ByteRange
item_ranges place =
    if opens_class place then unwrap_or (class_at place) []
    else if is_range place then range (slice_index place 0) (slice_index place 2) ∷ []
    else range (slice_index place 0) (slice_index place 0) ∷ []

-- The positions in the body of a bracket at which its items begin.
abbrev pub items_of : List ℕ → List (List ℕ)
items_of body = places item_length 0 body

-- The set of bytes of a bracket, given the text after its `[`.
abbrev pub set_of : List ℕ → ByteSet
set_of text = record { negated = has_sign text; ranges = flat_map item_ranges (items_of (unwrap_or (body_of text) [])) }

-- ---- components

-- How many bytes the element at this position has. A backslash takes the byte after it along. A bracket without an
-- end takes the rest of the text.
abbrev pub element_length : List ℕ → ℕ
element_length [] = 0
element_length (b ∷ text) =
    if b == 92 then 2
    else if b == 91 then option_map_or (λ body. sign_length text + length body + 2) (body_of text) (length text + 1)
    else 1

-- The element at this position: a byte after a backslash, `*`, `?`, a bracket, or a byte that stands for itself.
abbrev pub element_at : List ℕ → Element
element_at [] = Any
element_at (b ∷ text) =
    if b == 92 then Byte (slice_index text 0)
    else if b == 42 then Many
    else if b == 63 then Any
    else if b == 91 then OneOf (set_of text)
    else Byte b

-- The positions in a component at which its elements begin.
abbrev pub elements_of : List ℕ → List (List ℕ)
elements_of component = places element_length 0 component

-- Whether the element at this position has this fault. The pair of braces `{}` has one, because it has no
-- alternative. So has a backslash with nothing after it.
abbrev pub has_fault_at : PatternFault → List ℕ → Bool
has_fault_at f [] = false
has_fault_at fault.UnclosedBracket (b ∷ text) = b == 91 && is_none (body_of text)
has_fault_at fault.BadRange (b ∷ text) = b == 91 && list_any is_bad_range (items_of (unwrap_or (body_of text) []))
has_fault_at fault.BadClass (b ∷ text) = b == 91 && list_any is_bad_class (items_of (unwrap_or (body_of text) []))
has_fault_at fault.Brace (b ∷ text) = b == 123 && slice_index text 0 == 125
has_fault_at fault.TrailingBackslash (b ∷ text) = b == 92 && nat_lt (length text) 1
has_fault_at f (b ∷ text) = false
