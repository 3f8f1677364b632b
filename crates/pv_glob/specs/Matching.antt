-- The names and the paths that a pattern matches (glob(7)).
use Rattle.std.specs.Prelude.{ℕ, Bool, true, false, not, ◌&&◌, ◌||◌, ◌==◌, nat_le, List, [], ◌∷◌, map, length, if◌then◌else◌}
use Rattle.std.specs.List.{list_all, list_any}
use Rattle.std.specs.Cmp.Lexicographic.{pointwise}
use Rattle.pv_path.specs.Paths.{Path, has_staging}
use Rattle.pv_glob.specs.declared.element.ByteRange.{ByteRange}
use Rattle.pv_glob.specs.declared.element.ByteSet.{ByteSet}
use Rattle.pv_glob.specs.declared.element.Element.{Element}
use Rattle.pv_glob.specs.declared.element.Element.TheVariants.{Byte, Any, Many, OneOf}

-- Whether a byte lies in a range, by value.
abbrev pub in_range : ℕ → ByteRange → Bool
in_range b range = nat_le range.low b && nat_le b range.high

-- Whether a byte belongs to the set of a bracket. A negated bracket has the bytes that are in none of its ranges.
abbrev pub in_set : ByteSet → ℕ → Bool
in_set set b = if set.negated then not (list_any (in_range b) set.ranges) else list_any (in_range b) set.ranges

-- Whether a byte is a period at the beginning of a name. `first` says that the byte is the first of the name.
abbrev pub is_hiding : Bool → ℕ → Bool
is_hiding first b = first && b == 46

-- Whether an element that stands for one byte matches this byte. A period at the beginning of a name is matched by a
-- written period only.
abbrev pub byte_matches : Element → Bool → ℕ → Bool
byte_matches (Byte c) first b = b == c
byte_matches Any first b = not (is_hiding first b)
byte_matches Many first b = false
byte_matches (OneOf set) first b = not (is_hiding first b) && in_set set b

-- Whether the elements after `*` match the rest of a name, after `*` has matched none, one or more bytes. `*` does
-- not match a period at the beginning of a name.
abbrev pub after_many : (Bool → List ℕ → Bool) → Bool → List ℕ → Bool
after_many rest_matches first [] = rest_matches first []
after_many rest_matches first (b ∷ name) = rest_matches first (b ∷ name) || (not (is_hiding first b) && after_many rest_matches false name)

-- Whether elements match what is left of a name. `first` says that it is the whole name.
abbrev pub name_matches : List Element → Bool → List ℕ → Bool
name_matches [] first [] = true
name_matches [] first (b ∷ name) = false
name_matches (Many ∷ elements) first name = after_many (name_matches elements) first name
name_matches (element ∷ elements) first [] = false
name_matches (element ∷ elements) first (b ∷ name) = byte_matches element first b && name_matches elements false name

-- Whether a component of a pattern matches a whole name.
abbrev pub component_matches : List Element → List ℕ → Bool
component_matches elements name = name_matches elements true name

-- Whether a pattern without braces matches a path. It has as many components as the path has names, and each matches
-- its name. No name is a staging name.
abbrev pub matches : List (List Element) → Path → Bool
matches components path = not (has_staging path) && pointwise component_matches components path

-- The pattern that matches one path alone.
abbrev pub literal_of : Path → List (List Element)
literal_of path = map (map (λ b. Byte b)) path

-- Whether a pattern matches a path: one of its expansions does.
abbrev pub some_matches : List (List (List Element)) → Path → Bool
some_matches plains path = list_any (λ plain. matches plain path) plains

-- Whether these can be the expansions of a pattern: there is at least one, and all have the same number of
-- components.
abbrev pub are_expansions : List (List (List Element)) → Bool
are_expansions [] = false
are_expansions (plain ∷ plains) = list_all (λ other. length other == length plain) plains
