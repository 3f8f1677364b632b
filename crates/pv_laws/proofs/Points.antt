-- The definition of what lines leave at each path by itself gives what they leave, timestamps and staging names aside.
use Rattle.std.specs.Prelude.{◌≡◌, ℕ, Bool, true, false, not, cond, ◌&&◌, ◌||◌, List, [], ◌∷◌, ◌++◌, take, Option, Some, None, is_some, option_map, unwrap_or}
use Rattle.std.proofs.Common.{zero, suc, refl, sym, ap, subst, ◌∙◌, inl, inr, arith}
use Rattle.std.proofs.lemmas.List.{append-nil}
use Rattle.std.specs.FinMap as fin
use Rattle.std.specs.FinMap.Entries as entries
use Rattle.std.specs.List.{list_all, filter_map, cons_option}
use Rattle.std.specs.Option.{option_map_or}
use Rattle.std.specs.Ordering.{eq_by_cmp}
use Rattle.std.proofs.lemmas.Bool.{or_parts}
use Rattle.pv_path.specs.Paths.{Path, path_cmp, path_total, same_path, is_prefix, rest_under, has_staging, same_path-decides}
use Rattle.pv_path.proofs.PathLaws.{path_cmp-exact, rest_under-self, rest_under-Some, is_some-rest_under, same_path-no}
use Rattle.pv_steps.specs.Trees.{Files}
use Rattle.pv_steps.proofs.StepLaws.{is_among, among_right, among_left, later_among}
use Rattle.pv_walk.specs.declared.object_state.ObjectState.{ObjectState}
use Rattle.pv_walk.specs.declared.operation.Operation.{Operation}
use Rattle.pv_walk.specs.declared.operation.Operation.TheVariants.{Make, Erase}
use Rattle.pv_walk.specs.Operations.{done, run}
use Rattle.pv_walk.proofs.EditLaws.{path_cases}
use Rattle.pv_lines.specs.declared.line.Line.{Line}
use Rattle.pv_walk.specs.Preparing.{parents_of}
use Rattle.pv_table.specs.declared.action.Action.{Action}
use Rattle.pv_table.specs.declared.action.Action.TheVariants.{Create, Copy, Adjust, Idle}
use Rattle.pv_table.specs.declared.action.Making.{Making}
use Rattle.pv_table.specs.declared.action.Adjustment.{Adjustment}
use Rattle.pv_table.specs.Asked.{clears_below, made_at, operations}
use Rattle.pv_table.specs.ActionTable.{action_of}
use Rattle.pv_table.specs.Created.{by_line}
use Rattle.pv_steps.specs.Doing.{one_is_refused}
use Rattle.pv_table.specs.Pointwise.{ObjectStates, tabulated, parent_object_state, after_turn, at_made, adjusts_path, point, point_paths}
use Rattle.pv_table.specs.Reaching.{path_in}
use Rattle.pv_table.specs.Repeatable.{sets_of}
use Rattle.pv_table.specs.Turns.{copied, making_turn}
use Rattle.pv_laws.proofs.Lines.{IsPlain, asked_made, asked_adjustment, asked_idle}
use Rattle.pv_laws.proofs.Making.{is_dir, IsShaped, dir_there, nothing_under, asked_here, asked_above, asked_else, object_after, below_after}
use Rattle.pv_walk.proofs.PreparedLaws.{has_some, in_parents, among_first, stands_among}
use Rattle.pv_laws.proofs.Repeated.{IsAskedAt, object, parent, below, set, nothing, asked_at}
use Rattle.pv_laws.proofs.Sets.{impossible, is_adjustment, IsMaking, line_is_making, adjusted_none, asked, sets_adjust}
use Rattle.pv_laws.proofs.Prepared.{some_named}
use Rattle.pv_path.proofs.Tests.{equal_of, true_not_false, hidden, shown}

-- ---- maps from functions

-- what a function has at some paths
abbrev object_states_at : List Path → (Path → Option ObjectState) → List (Path × ObjectState)
object_states_at paths f = filter_map (λ path. option_map (λ b. (path, b)) (f path)) paths

find-object_states_at : (paths : List Path) (f : Path → Option ObjectState) (q : Path) → entries.find path_cmp q (object_states_at paths f) ≡ cond (is_among q paths) (f q) None
find-object_states_at [] f q = refl
find-object_states_at (path ∷ paths) f q = by (f path) refl (find-object_states_at paths f q)
  where
    same : eq_by_cmp path_cmp q path ≡ true → f q ≡ f path
    same h = ap f (path_cmp-exact q path (equal_of (path_cmp q path) h))

    by : (o : Option ObjectState) → f path ≡ o → entries.find path_cmp q (object_states_at paths f) ≡ cond (is_among q paths) (f q) None
        → entries.find path_cmp q (cons_option (option_map (λ (b : ObjectState). (path, b)) o) (object_states_at paths f)) ≡ cond (is_among q (path ∷ paths)) (f q) None
    by None e rest = rest ∙ hidden (eq_by_cmp path_cmp q path) (is_among q paths) (f q) (λ h. same h ∙ e)
    by (Some x) e rest = ap (cond (eq_by_cmp path_cmp q path) (Some x)) rest ∙ shown (eq_by_cmp path_cmp q path) (is_among q paths) x (f q) (λ h. same h ∙ e)

covered : (b : Bool) (o : Option ObjectState) → (is_some o ≡ true → b ≡ true) → cond b o None ≡ o
covered b o h = grind arith

pub get-tabulated : (paths : List Path) (f : Path → Option ObjectState) (q : Path) → (is_some (f q) ≡ true → is_among q paths ≡ true) → fin.get (tabulated paths f) q ≡ f q
get-tabulated paths f q holds = fin.get-from_entries path_total (object_states_at paths f) q ∙ find-object_states_at paths f q ∙ covered (is_among q paths) (f q) holds

-- ---- one line

point_made : (line : Line) (making : Making) (s : ObjectStates) (q : Path) → action_of line ≡ Create making → point line s q ≡ at_made (Create making) (path_in line.path) s q
point_made line making s q e = rw e

point_adjust : (line : Line) (adjustment : Adjustment) (s : ObjectStates) (q : Path) → action_of line ≡ Adjust adjustment → point line s q ≡ cond (adjusts_path line adjustment q) (run adjustment.sets (fin.get s q)) (fin.get s q)
point_adjust line adjustment s q e = rw e

point_idle : (line : Line) (s : ObjectStates) (q : Path) → action_of line ≡ Idle → point line s q ≡ fin.get s q
point_idle line s q e = rw e

paths_made : (line : Line) (making : Making) (s : ObjectStates) → action_of line ≡ Create making → point_paths line s ≡ path_in line.path ∷ parents_of (path_in line.path)
paths_made line making s e = rw e

module _ (line : Line) (is : IsPlain line) (s : ObjectStates) (shape : IsShaped (fin.get s)) (q : Path) (plain : has_staging q ≡ false) where
  module _ (making : Making) (e : action_of line ≡ Create making) where
    abbrev path : Path
    path = path_in line.path

    is_making : IsMaking making
    is_making = line_is_making line making e

    -- what the definition gives at one path, by where the path lies
    abbrev given : Bool → Option Path → Option ObjectState
    given above rest = cond above (Some (unwrap_or (fin.get s q) parent_object_state)) (option_map_or (λ r. after_turn (making_turn making (fin.get s path)) r (fin.get s q)) rest (fin.get s q))

    made_here : path ≡ q → given (is_prefix q path && not (same_path q path)) (rest_under path q) ≡ run (made_at making path q) (fin.get s q)
    made_here same =
        ap (λ b. given (is_prefix q path && not b) (rest_under path q)) ((same_path-decides q path).1 (sym same))
        ∙ ap (λ b. given b (rest_under path q)) (none (is_prefix q path))
        ∙ ap (given false) (ap (rest_under path) (sym same) ∙ rest_under-self path)
        ∙ ap (λ b. after_turn (making_turn making b) [] (fin.get s q)) (ap (fin.get s) same)
        ∙ object_after making is_making (fin.get s q)
        ∙ sym (ap (λ xs. run xs (fin.get s q)) (asked_here making path q ((same_path-decides path q).1 same)))
      where
        none : (b : Bool) → (b && not true) ≡ false
        none b = grind arith

    made_above : same_path path q ≡ false → same_path q path ≡ false → is_prefix q path ≡ true → given (is_prefix q path && not (same_path q path)) (rest_under path q) ≡ run (made_at making path q) (fin.get s q)
    made_above d c high =
        ap (λ b. given (b && not (same_path q path)) (rest_under path q)) high
        ∙ ap (λ b. given (not b) (rest_under path q)) c
        ∙ filled (fin.get s q)
        ∙ sym (ap (λ xs. run xs (fin.get s q)) (asked_above making path q d high))
      where
        filled : (b : Option ObjectState) → Some (unwrap_or b parent_object_state) ≡ done (Make parent_object_state) b
        filled b = grind arith

    made_else : same_path path q ≡ false → is_prefix q path ≡ false → given (is_prefix q path && not (same_path q path)) (rest_under path q) ≡ run (made_at making path q) (fin.get s q)
    made_else d high =
        ap (λ b. given (b && not (same_path q path)) (rest_under path q)) high ∙ by (rest_under path q) refl
        ∙ sym (ap (λ xs. run xs (fin.get s q)) (asked_else making path q d high))
      where
        lower : (r : Path) → rest_under path q ≡ Some r → is_prefix path q ≡ true
        lower r f = sym (is_some-rest_under path q) ∙ ap is_some f

        higher : rest_under path q ≡ None → is_prefix path q ≡ false
        higher f = sym (is_some-rest_under path q) ∙ ap is_some f

        absent : is_prefix path q ≡ true → is_dir (fin.get s path) ≡ false → fin.get s q ≡ None
        absent under no_dir = nothing_under (fin.get s) shape path q plain under (λ same. true_not_false (same_path path q) ((same_path-decides path q).1 same) d) no_dir

        by : (r : Option Path) → rest_under path q ≡ r → given false r ≡ run (cond (is_prefix path q && clears_below making) (Erase ∷ []) []) (fin.get s q)
        by None f = sym (ap (λ b. run (cond (b && clears_below making) (Erase ∷ []) []) (fin.get s q)) (higher f))
        by (Some []) f = absurd (true_not_false (same_path path q) ((same_path-decides path q).1 (sym (rest_under-Some path q [] f ∙ append-nil path))) d)
        by (Some (name ∷ rest)) f =
            below_after making is_making (fin.get s path) (fin.get s q) (λ x g h. (let numbers = shape.plain path x is.unstaged g h in (h, numbers.0, numbers.1))) (absent (lower (name ∷ rest) f)) name rest
            ∙ sym (ap (λ b. run (cond (b && clears_below making) (Erase ∷ []) []) (fin.get s q)) (lower (name ∷ rest) f))

    made_given : given (is_prefix q path && not (same_path q path)) (rest_under path q) ≡ run (made_at making path q) (fin.get s q)
    made_given = elim (path_cases path q) [
      | inl same ↦ made_here same
      | inr d ↦ by d (is_prefix q path) refl
    ]
      where
        by : same_path path q ≡ false → (b : Bool) → is_prefix q path ≡ b → given (is_prefix q path && not (same_path q path)) (rest_under path q) ≡ run (made_at making path q) (fin.get s q)
        by d true high = made_above d (same_path-no q path (λ same. true_not_false (same_path path q) ((same_path-decides path q).1 (sym same)) d)) high
        by d false high = made_else d high

  -- what the definition gives at a path is what the operations asked there make of what stood there
  pub point_asked : point line s q ≡ run (operations line q) (fin.get s q)
  point_asked = by (action_of line) refl
    where
      either : (b : Bool) (xs : List Operation) → cond b (run xs (fin.get s q)) (fin.get s q) ≡ run (cond b xs []) (fin.get s q)
      either b xs = grind arith

      by : (d : Action) → action_of line ≡ d → point line s q ≡ run (operations line q) (fin.get s q)
      by (Create making) e = point_made line making s q e ∙ made_given making e ∙ ap (λ xs. run xs (fin.get s q)) (sym (asked_made line making q e))
      by (Copy copying) e = absurd (let no : Some copying.source ≡ None = sym (ap copied e) ∙ is.no_copy in cc)
      by (Adjust adjustment) e = point_adjust line adjustment s q e ∙ either (adjusts_path line adjustment q) adjustment.sets ∙ ap (λ xs. run xs (fin.get s q)) (sym (asked_adjustment line adjustment q e))
      by Idle e = point_idle line s q e ∙ ap (λ xs. run xs (fin.get s q)) (sym (asked_idle line q e))

  -- and it lies among the paths that are looked at
  pub listed : is_some (run (operations line q) (fin.get s q)) ≡ true → is_among q (point_paths line s ++ fin.keys s) ≡ true
  listed h = by (fin.get s q) refl
    where
      keyed : is_some (fin.get s q) ≡ true → is_among q (point_paths line s ++ fin.keys s) ≡ true
      keyed there = among_right q (point_paths line s) (fin.keys s) (sym (fin.contains_key-keys s q) ∙ there)

      among_made : (making : Making) → action_of line ≡ Create making → is_among q (path_in line.path ∷ (parents_of (path_in line.path) ++ fin.keys s)) ≡ true → is_among q (point_paths line s ++ fin.keys s) ≡ true
      among_made making e g = ap (λ ps. is_among q (ps ++ fin.keys s)) (paths_made line making s e) ∙ g

      new : fin.get s q ≡ None → IsAskedAt line q → is_among q (point_paths line s ++ fin.keys s) ≡ true
      new none (object making e same f) = among_made making e (subst (λ (p : Path). is_among p (path_in line.path ∷ (parents_of (path_in line.path) ++ fin.keys s)) ≡ true) same (among_first (path_in line.path) (parents_of (path_in line.path) ++ fin.keys s)))
      new none (parent making e high f) = elim (path_cases q (path_in line.path)) [
        | inl same ↦ among_made making e (subst (λ (p : Path). is_among p (path_in line.path ∷ (parents_of (path_in line.path) ++ fin.keys s)) ≡ true) (sym same) (among_first (path_in line.path) (parents_of (path_in line.path) ++ fin.keys s)))
        | inr d ↦ among_made making e (later_among (path_in line.path) q (parents_of (path_in line.path) ++ fin.keys s) (among_left q (parents_of (path_in line.path)) (fin.keys s) (stands_among q (parents_of (path_in line.path)) (
            in_parents q (path_in line.path) (λ same. true_not_false (same_path q (path_in line.path)) ((same_path-decides q (path_in line.path)).1 same) d)
            ∙ ap (λ b. b && has_some q) high
            ∙ some_named q (λ at_root. true_not_false (is_some (fin.get s q)) (ap (λ (p : Path). is_some (fin.get s p)) at_root ∙ dir_there (fin.get s []) shape.root) (ap is_some none))))))
      ]
      new none (below making e g d f) = impossible (sym (ap (λ xs. is_some (run xs (fin.get s q))) f) ∙ h)
      new none (set adjustment e t f) = impossible (
          sym (ap (λ xs. is_some (run xs (fin.get s q))) f ∙ ap (λ b. is_some (run adjustment.sets b)) none ∙ ap is_some (adjusted_none adjustment.sets (subst (λ d. list_all is_adjustment (sets_of d) ≡ true) e (sets_adjust line (action_of line) (asked line))))) ∙ h)
      new none (nothing f) = impossible (sym (ap (λ xs. is_some (run xs (fin.get s q))) f ∙ ap is_some none) ∙ h)

      by : (b : Option ObjectState) → fin.get s q ≡ b → is_among q (point_paths line s ++ fin.keys s) ≡ true
      by None e = new e (asked_at line q)
      by (Some x) e = keyed (ap is_some e)

-- ---- the first of several lines

pub quiet_front : (now k : ℕ) (lines : List Line) (t : Files) → one_is_refused (by_line now) lines t ≡ false → one_is_refused (by_line now) (take k lines) t ≡ false
quiet_front now zero lines t quiet = refl
quiet_front now (suc k) [] t quiet = refl
quiet_front now (suc k) (line ∷ lines) t quiet =
    let two = or_parts ((by_line now).is_refused line t) (one_is_refused (by_line now) lines ((by_line now).after line t)) quiet in
    ap (λ b. b || one_is_refused (by_line now) (take k lines) ((by_line now).after line t)) two.0 ∙ quiet_front now k lines ((by_line now).after line t) two.1
