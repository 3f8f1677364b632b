-- The pattern that a text spells (glob(7), and the brace expansion of bash(1)). If it spells none, its first fault.
use Rattle.std.specs.Prelude.{◌≡◌, ℕ, ◌*◌, Bool, false, not, ◌||◌, ◌==◌, nat_le, nat_lt, List, [], ◌∷◌, map, filter, find, length, Option, Some, None, unwrap_or, Result, Ok, Err, if◌then◌else◌}
use Rattle.std.specs.List.{list_any, slice_split}
use Rattle.std.specs.Option.{option_map_or}
use Rattle.std.specs.Result.{result_map_both}
use Rattle.pv_path.specs.Names.{is_dots, is_staging}
use Rattle.pv_path.specs.Parsing.{begins_with_slash}
use Rattle.pv_glob.specs.declared.element.Element.{Element}
use Rattle.pv_glob.specs.declared.pattern_fault.PatternFault.{PatternFault}
use Rattle.pv_glob.specs.declared.pattern_fault.PatternFault.TheVariants as fault
use Rattle.pv_glob.specs.Elements.{elements_of, has_fault_at}
use Rattle.pv_glob.specs.Braces.{expansions_of, joined}

-- ---- components

-- Whether the braces of a component are balanced, and there are at most 256 expansions so far. The components before
-- it have `before` expansions together.
abbrev pub is_expanded : ℕ → List ℕ → Bool
is_expanded before component = option_map_or (λ words. nat_le (before * length words) 256) (expansions_of component) false

-- Whether a component has this fault.
abbrev pub has_fault : ℕ → List ℕ → PatternFault → Bool
has_fault before component fault.Brace = list_any (has_fault_at fault.Brace) (elements_of component) || not (is_expanded before component)
has_fault before component f = list_any (has_fault_at f) (elements_of component)

-- The fault of a component. If it has several, the first of this list counts.
abbrev pub component_fault : ℕ → List ℕ → Option PatternFault
component_fault before component =
    find (has_fault before component)
    (fault.UnclosedBracket ∷ fault.BadRange ∷ fault.BadClass ∷ fault.Brace ∷ fault.TrailingBackslash ∷ [])

-- The expansions of a component without a fault.
abbrev pub words_of : List ℕ → List (List Element)
words_of component = unwrap_or (expansions_of component) []

-- The expansions of a component, or its fault.
abbrev pub component_of : ℕ → List ℕ → Result (List (List Element)) PatternFault
component_of before component = option_map_or Err (component_fault before component) (Ok (words_of component))

-- What is wrong with a component as a name of a path: it is `.` or `..`, or it begins as staging names do.
abbrev pub name_fault : List ℕ → Option PatternFault
name_fault component =
    if is_dots component then Some fault.DotComponent
    else if is_staging component then Some fault.StagingName
    else None

-- ---- texts

-- The components of a text, between its slashes. Empty ones are left out.
abbrev pub components_of : List ℕ → List (List ℕ)
components_of text = filter (λ component. nat_lt 0 (length component)) (slice_split (λ b. b == 47) text)

-- The fault of the first component that has one.
abbrev pub first_fault : (List ℕ → Option PatternFault) → List (List ℕ) → Option PatternFault
first_fault fault_of [] = None
first_fault fault_of (component ∷ components) = option_map_or Some (fault_of component) (first_fault fault_of components)

-- The expansions of these components together, or the fault of the first faulty one. The components before them have
-- `before` expansions.
abbrev pub plains_of : ℕ → List (List ℕ) → Result (List (List (List Element))) PatternFault
plains_of before [] = Ok ([] ∷ [])
plains_of before (component ∷ components) =
    option_map_or Err (component_fault before component)
    (result_map_both (joined (map (λ word. word ∷ []) (words_of component))) (λ f. f) (plains_of (before * length (words_of component)) components))

-- The pattern of these components, or their fault. A fault of any component as a name comes before the other faults.
abbrev pub pattern_with : List (List ℕ) → Result (List (List (List Element))) PatternFault
pattern_with components = option_map_or Err (first_fault name_fault components) (plains_of 1 components)

-- The pattern that a text spells, as the list of its expansions, or its first fault. The first of these counts: no
-- slash at the beginning, a NUL byte, more than 4,095 bytes, the fault of the components.
abbrev pub pattern_of : List ℕ → Result (List (List (List Element))) PatternFault
pattern_of text =
    if begins_with_slash text then
    if list_any (λ b. b == 0) text then Err fault.BadByte
    else if nat_lt 4095 (length text) then Err fault.PathTooLong
    else pattern_with (components_of text)
    else Err fault.NotAbsolute

-- The answer of a call is what the definition gives. Only the answer that memory ran out is always allowed.
abbrev pub Gives : {A : Type 0} → Result A PatternFault → Result A PatternFault → Type 0
Gives (Ok value) read = read ≡ Ok value
Gives (Err fault.Memory) read = Unit {0}
Gives (Err f) read = read ≡ Err f
