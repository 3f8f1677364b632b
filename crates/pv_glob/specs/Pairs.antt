-- A machine for two components of patterns. It accepts the names that both match (glob(7), path_resolution(7)).
use Rattle.std.specs.Prelude.{ℕ, ◌+◌, ◌*◌, ◌/◌, ◌%◌, Bool, true, false, not, ◌&&◌, ◌==◌, nat_le, nat_lt, List, [], ◌∷◌, ◌++◌, length, drop, slice_index_or, Option, Some, None, if◌then◌else◌}
use Rattle.std.specs.List.{list_all, flat_map, prefix_len}
use Rattle.std.specs.Option.{option_to_list}
use Rattle.pv_path.specs.Names.{is_name_byte, is_dots, is_staging}
use Rattle.pv_glob.specs.declared.element.Element.{Element}
use Rattle.pv_glob.specs.declared.element.Element.TheVariants.{Any, Many}
use Rattle.pv_glob.specs.Matching.{is_hiding, byte_matches, component_matches}
use Rattle.pv_glob.specs.declared.beginning.Beginning.{Beginning}
use Rattle.pv_glob.specs.declared.beginning.Beginning.TheVariants.{Nothing, Dot, TwoDots, DotHash, DotHashT, DotHashTf, Other}
use Rattle.pv_glob.specs.declared.spot.Spot.{Spot}
use Rattle.pv_glob.specs.Machines.{Machine}

-- ---- names of any length

-- Whether bytes are a name of any length: not empty, each byte allowed in names, neither `.` nor `..`, and not a
-- staging name.
abbrev pub could_be_name : List ℕ → Bool
could_be_name word = nat_le 1 (length word) && list_all is_name_byte word && not (is_dots word) && not (is_staging word)

-- Whether two components both match a name of any length.
abbrev pub is_shared : List Element → List Element → List ℕ → Bool
is_shared a b word = could_be_name word && component_matches a word && component_matches b word

-- ---- how a word began

-- How a word begins after one more byte: it is empty, it is `.`, `..`, `.#`, `.#t` or `.#tf`, or it is any other
-- word.
abbrev pub beginning_after : Beginning → ℕ → Beginning
beginning_after Nothing b = if b == 46 then Dot else Other
beginning_after Dot b = if b == 46 then TwoDots else if b == 35 then DotHash else Other
beginning_after TwoDots b = Other
beginning_after DotHash b = if b == 116 then DotHashT else Other
beginning_after DotHashT b = if b == 102 then DotHashTf else Other
beginning_after DotHashTf b = Other
beginning_after Other b = Other

-- Whether a byte may come next: it is allowed in names, and it does not complete the staging mark.
abbrev pub may_follow : Beginning → ℕ → Bool
may_follow DotHashTf b = is_name_byte b && not (b == 45)
may_follow begun b = is_name_byte b

-- Whether a word with this beginning may end here: it is not empty, and it is neither `.` nor `..`.
abbrev pub may_end : Beginning → Bool
may_end Nothing = false
may_end Dot = false
may_end TwoDots = false
may_end begun = true

-- Whether no byte has come yet.
abbrev pub is_nothing : Beginning → Bool
is_nothing Nothing = true
is_nothing begun = false

-- ---- indices in a component

-- Whether an element is `*`.
abbrev pub is_many : Element → Bool
is_many Many = true
is_many element = false

-- The number of `*` with which these elements begin.
abbrev pub stars : List Element → ℕ
stars = prefix_len is_many

-- The element at an index. After the last one it is an element that is not `*`.
abbrev pub element_at : List Element → ℕ → Element
element_at elements at = slice_index_or elements at Any

-- Whether an element matches a byte. `*` matches any byte except a period at the beginning of a name.
abbrev pub takes : Element → Bool → ℕ → Bool
takes Many first b = not (is_hiding first b)
takes element first b = byte_matches element first b

-- The index after an element has matched a byte. `*` may match more, so the index stays.
abbrev pub behind : List Element → ℕ → ℕ
behind elements at = if is_many (element_at elements at) then at else at + 1

-- The first index from another on whose element is not `*`.
abbrev pub past_stars : List Element → ℕ → ℕ
past_stars elements at = at + stars (drop at elements)

-- The indices of the elements that may match the next byte: a `*` at this index, and the first element from there on
-- that is not `*`.
abbrev pub takers : List Element → ℕ → List ℕ
takers elements at =
    (if is_many (element_at elements at) then at ∷ [] else [])
    ++ (if nat_lt (past_stars elements at) (length elements) then past_stars elements at ∷ [] else [])

-- ---- the machine

-- The number of a beginning.
abbrev pub code_of : Beginning → ℕ
code_of Nothing = 0
code_of Dot = 1
code_of TwoDots = 2
code_of DotHash = 3
code_of DotHashT = 4
code_of DotHashTf = 5
code_of Other = 6

-- The beginning with a number.
abbrev pub beginning_of : ℕ → Beginning
beginning_of code =
    if code == 0 then Nothing
    else if code == 1 then Dot
    else if code == 2 then TwoDots
    else if code == 3 then DotHash
    else if code == 4 then DotHashT
    else if code == 5 then DotHashTf
    else Other

-- The number of a state. `width` is one more than the number of elements of the right component.
abbrev pub number_of : ℕ → Spot → ℕ
number_of width spot = 7 * (spot.left * width + spot.right) + code_of spot.begun

-- The state with a number.
abbrev pub spot_at : ℕ → ℕ → Spot
spot_at width number = record { left = number / 7 / width; right = number / 7 % width; begun = beginning_of (number % 7) }

-- The state to which a byte leads, if the left element at `i` and the right one at `j` both match it. If the byte
-- may not come next, there is none.
abbrev pub target : List Element → List Element → Beginning → ℕ → ℕ → ℕ → Option ℕ
target a b begun i j byte =
    if may_follow begun byte && takes (element_at a i) (is_nothing begun) byte && takes (element_at b j) (is_nothing begun) byte
    then Some (number_of (length b + 1) (record { left = behind a i; right = behind b j; begun = beginning_after begun byte }))
    else None

-- The states to which a byte leads from a state.
abbrev pub spots_after : List Element → List Element → Spot → ℕ → List ℕ
spots_after a b spot byte =
    flat_map (λ i. flat_map (λ j. option_to_list (target a b spot.begun i j byte)) (takers b spot.right)) (takers a spot.left)

-- Whether a state accepts: the word may end here, and both components have at most `*` left.
abbrev pub ends_at : List Element → List Element → Spot → Bool
ends_at a b spot = may_end spot.begun && past_stars a spot.left == length a && past_stars b spot.right == length b

-- The machine for two components. Its states are an index in each component together with a beginning.
abbrev pub pair_machine : List Element → List Element → Machine
pair_machine a b = record {
  places = 7 * ((length a + 1) * (length b + 1));
  is_end = λ at. ends_at a b (spot_at (length b + 1) at);
  after = λ at byte. spots_after a b (spot_at (length b + 1) at) byte;
}
