-- Rows on the definitions: what lines of configuration do of small trees.
use Rattle.std.proofs.Common.{◌≡◌, refl}
use Rattle.std.specs.Prelude.{ℕ, ◌*◌, Bool, true, false, List, [], ◌∷◌, ◌++◌, codes, find, map, Option, Some, None, option_map}
use Rattle.pv_age.specs.declared.age.Age.{Age}
use Rattle.pv_walk.specs.declared.object_state.ObjectState.{ObjectState}
use Rattle.pv_walk.specs.Nodes.{object_state_of, object_states_of}
use Rattle.pv_walk.specs.Operations.{run}
use Rattle.pv_lines.specs.declared.line.Argument.{Argument}
use Rattle.pv_lines.specs.declared.line.Argument.TheVariants as argument
use Rattle.pv_lines.specs.declared.line.Line.{Line}
use Rattle.pv_path.specs.Paths.{Path, same_path}
use Rattle.pv_steps.specs.declared.node.Kind.TheVariants.{Directory, File, Link}
use Rattle.pv_steps.specs.declared.object.Object.{Object}
use Rattle.pv_steps.specs.declared.why.Why.TheVariants.{UnsafeOwner}
use Rattle.pv_steps.specs.Objects.{fresh}
use Rattle.pv_steps.specs.Trees.{Places}
use Rattle.pv_table.specs.Asked.{operations}
use Rattle.pv_table.specs.ActionTable.{action_of}
use Rattle.pv_table.specs.Cleaned.{is_old_by}
use Rattle.pv_table.specs.Pointwise.{after_turn}
use Rattle.pv_table.specs.Saying.{refused_text, turn_texts}
use Rattle.pv_table.specs.Scopes.{scope}
use Rattle.pv_table.specs.Turns.{Refused, Turn, View, decide, refused_at}
use Rattle.pv_table.proofs.Rows.{line, pattern_line}

-- ---- lines and trees

-- the object at the paths of some entries
abbrev at : List (Path × Object) → Places
at entries = λ q. option_map (λ (e : Path × Object). e.1) (find (λ e. same_path e.0 q) entries)

abbrev seen : List (Path × Object) → View
seen entries = record { paths = map (λ e. e.0) entries; at = object_states_of (at entries) }

abbrev directory : ℕ → Object
directory mode = fresh Directory mode [] 0 0 0

abbrev file : ℕ → List ℕ → Object
file mode bytes = fresh File mode bytes 0 0 0

abbrev owned_by : ℕ → Object → Object
owned_by uid o = record o { node = record o.node { uid = uid } }

-- a line with an argument, and one with a mode
abbrev with_argument : Argument → Line → Line
with_argument given l = record l { argument = given }

abbrev with_mode : ℕ → Bool → Line → Line
with_mode value masked l = record l { mode = Some (record { value = value; masked = masked; new_only = false }) }

-- what is left at a path that comes by a rest after that of a line, by the object there
abbrev left : Line → Path → List (Path × Object) → Path → Option ObjectState
left l path entries rest = after_turn (decide (action_of l) (seen entries) path) rest (object_states_of (at entries) (path ++ rest))

abbrev a : List ℕ
a = codes "a"

abbrev d : List ℕ
d = codes "d"

abbrev x : List ℕ
x = codes "x"

-- ---- files

abbrev text_line : Line
text_line = with_argument (argument.FileBytes (Some (codes "text"))) (line 102 (a ∷ []))

a_directory_in_the_way_is_left : decide (action_of text_line) (seen ((a ∷ [], directory 0o755) ∷ [])) (a ∷ []) ≡ Turn.Left Directory
a_directory_in_the_way_is_left = refl

it_is_said : turn_texts (a ∷ []) (Turn.Left Directory) ≡ codes "/a is a directory, left" ∷ []
it_is_said = refl

an_absent_file_is_made : left text_line (a ∷ []) [] [] ≡ Some (object_state_of (file 0o644 (codes "text")))
an_absent_file_is_made = refl

a_file_that_is_there_keeps_its_bytes : left text_line (a ∷ []) ((a ∷ [], file 0o600 (codes "old")) ∷ []) [] ≡ Some (object_state_of (file 0o600 (codes "old")))
a_file_that_is_there_keeps_its_bytes = refl

-- ---- links

abbrev link_line : Line
link_line = record (with_argument (argument.Target (codes "/t")) (line 76 (a ∷ []))) { plus = true }

abbrev link : Object
link = fresh Link 0o777 (codes "/t") 0 0 0

abbrev full : List (Path × Object)
full = (a ∷ [], directory 0o755) ∷ (a ∷ x ∷ [], file 0o644 []) ∷ []

a_link_takes_the_place_of_a_directory : left link_line (a ∷ []) full [] ≡ Some (object_state_of link)
a_link_takes_the_place_of_a_directory = refl

what_lay_below_is_gone : left link_line (a ∷ []) full (x ∷ []) ≡ None
what_lay_below_is_gone = refl

-- ---- refusals

abbrev home_line : Line
home_line = with_mode 0o600 false (line 102 (a ∷ d ∷ x ∷ []))

abbrev home : ℕ → List (Path × Object)
home uid =
    ([], directory 0o755)
    ∷ (a ∷ [], directory 0o755)
    ∷ (a ∷ d ∷ [], owned_by 1000 (directory 0o755))
    ∷ (a ∷ d ∷ x ∷ [], owned_by uid (file 0o644 []))
    ∷ []

another_owner_is_refused : refused_at home_line (a ∷ d ∷ x ∷ []) (at (home 0)) ≡ Some (Refused.named (a ∷ d ∷ x ∷ []) 3 UnsafeOwner)
another_owner_is_refused = refl

the_refusal_is_said : refused_text (Refused.named (a ∷ d ∷ x ∷ []) 3 UnsafeOwner) ≡ codes "/a/d/x refused at /a/d/x: unsafe owner"
the_refusal_is_said = refl

the_same_owner_is_not : refused_at home_line (a ∷ d ∷ x ∷ []) (at (home 1000)) ≡ None
the_same_owner_is_not = refl

-- ---- masked modes

abbrev deep_line : Line
deep_line = with_mode 0o2755 true (pattern_line 90 (d ∷ []))

a_directory_keeps_what_it_grants : run (operations deep_line (d ∷ [])) (Some (object_state_of (directory 0o700))) ≡ Some (object_state_of (directory 0o2755))
a_directory_keeps_what_it_grants = refl

a_file_gets_no_bit_that_it_grants_to_nobody : run (operations deep_line (d ∷ x ∷ [])) (Some (object_state_of (file 0o600 []))) ≡ Some (object_state_of (file 0o644 []))
a_file_gets_no_bit_that_it_grants_to_nobody = refl

nor_one_that_it_may_not_write : run (operations deep_line (d ∷ x ∷ [])) (Some (object_state_of (file 0o500 []))) ≡ Some (object_state_of (file 0o555 []))
nor_one_that_it_may_not_write = refl

a_file_that_grants_nothing_stays : run (operations deep_line (d ∷ x ∷ [])) (Some (object_state_of (file 0 []))) ≡ Some (object_state_of (file 0 []))
a_file_that_grants_nothing_stays = refl

a_link_stays : run (operations deep_line (d ∷ x ∷ [])) (Some (object_state_of link)) ≡ Some (object_state_of link)
a_link_stays = refl

-- ---- copies

abbrev copy_line : Line
copy_line = with_argument (argument.Source (a ∷ [])) (line 67 (d ∷ []))

abbrev source : List (Path × Object)
source = (a ∷ [], directory 0o750) ∷ (a ∷ x ∷ [], file 0o600 (codes "v")) ∷ []

an_absent_destination_becomes_the_copy : left copy_line (d ∷ []) source [] ≡ Some (object_state_of (directory 0o750))
an_absent_destination_becomes_the_copy = refl

with_all_below : left copy_line (d ∷ []) source (x ∷ []) ≡ Some (object_state_of (file 0o600 (codes "v")))
with_all_below = refl

so_does_an_empty_one : left copy_line (d ∷ []) ((d ∷ [], directory 0o700) ∷ source) [] ≡ Some (object_state_of (directory 0o750))
so_does_an_empty_one = refl

a_full_one_stays : left copy_line (d ∷ []) ((d ∷ [], directory 0o700) ∷ (d ∷ a ∷ [], file 0o644 []) ∷ source) [] ≡ Some (object_state_of (directory 0o700))
a_full_one_stays = refl

a_file_in_the_way_is_left : decide (action_of copy_line) (seen ((d ∷ [], file 0o644 []) ∷ source)) (d ∷ []) ≡ Turn.Left File
a_file_in_the_way_is_left = refl

without_a_source_nothing_is_done : decide (action_of copy_line) (seen []) (d ∷ []) ≡ Turn.Nothing
without_a_source_nothing_is_done = refl

-- ---- ages

-- an age of some days by the timestamps that an age without letters looks at
abbrev days : ℕ → Bool → Age
days count spare_first = record { micros = count * 86400000000; by = record { 0 = 223 }; spare_first = spare_first }

abbrev with_age : Age → Line → Line
with_age given l = record l { age = Some given }

-- a file with all its timestamps at a moment
abbrev file_of : ℕ → Option Object
file_of moment = Some (fresh File 0o644 [] 0 0 moment)

abbrev ten_days : Bool → List Line
ten_days spare_first = with_age (days 10 spare_first) (line 100 (d ∷ [])) ∷ []

the_line_gives_the_age : scope (ten_days false) (d ∷ []) ≡ Some (record { age = days 10 false; own = true })
the_line_gives_the_age = refl

it_holds_for_what_lies_deeper : scope (ten_days false) (d ∷ x ∷ []) ≡ Some (record { age = days 10 false; own = false })
it_holds_for_what_lies_deeper = refl

it_holds_for_nothing_else : scope (ten_days false) (x ∷ []) ≡ None
it_holds_for_nothing_else = refl

older_files_are_old : is_old_by (scope (ten_days false) (d ∷ [])) 1000000000000 (file_of 135999999999) ≡ true
older_files_are_old = refl

others_are_not : is_old_by (scope (ten_days false) (d ∷ [])) 1000000000000 (file_of 136000000000) ≡ false
others_are_not = refl

the_first_level_may_be_spared : is_old_by (scope (ten_days true) (d ∷ [])) 1000000000000 (file_of 0) ≡ false
the_first_level_may_be_spared = refl

but_not_what_lies_deeper : is_old_by (scope (ten_days true) (d ∷ x ∷ [])) 1000000000000 (file_of 0) ≡ true
but_not_what_lies_deeper = refl

abbrev one_day : List Line
one_day = with_age (days 1 false) (line 100 (d ∷ [])) ∷ pattern_line 120 (d ∷ a ∷ []) ∷ pattern_line 88 (d ∷ x ∷ []) ∷ []

an_exempting_line_takes_the_age_away : scope one_day (d ∷ a ∷ []) ≡ None
an_exempting_line_takes_the_age_away = refl

a_sparing_line_leaves_it : scope one_day (d ∷ x ∷ []) ≡ Some (record { age = days 1 false; own = false })
a_sparing_line_leaves_it = refl
