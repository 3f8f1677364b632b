-- A run leaves nothing at the staging names along the path of a line that is carried out.
use Rattle.std.specs.Prelude.{◌≡◌, ◌≢◌, ℕ, Bool, true, false, cond, ◌&&◌, List, [], ◌∷◌, filter, Option, Some, None, option_map, ◌++◌, is_some, ◌||◌}
use Rattle.std.proofs.Common.{refl, sym, ap, subst, ◌∙◌, inl, inr}
use Rattle.std.proofs.lemmas.Bool.{false_from_ne_true}
use Rattle.std.proofs.lemmas.List.{append-nil}
use Rattle.std.specs.FinMap as fin
use Rattle.std.specs.List.{list_all, AllByRecursion}
use Rattle.pv_path.specs.Paths.{Path, is_prefix, rest_under, has_staging, staging_of}
use Rattle.pv_path.proofs.PathLaws.{has_staging-extends, has_staging-staging_of, rest_under-Some, has_staging-append}
use Rattle.pv_steps.specs.Trees.{Files, places, IsAbsentIn}
use Rattle.pv_walk.specs.declared.object_state.ObjectState.{ObjectState}
use Rattle.pv_walk.specs.Nodes.{object_state_of, object_states_of, same_kind}
use Rattle.pv_walk.specs.Operations.{run}
use Rattle.pv_lines.specs.declared.line.Line.{Line}
use Rattle.pv_walk.specs.Staging.{prefixes, staging_names, new_kind}
use Rattle.pv_table.specs.declared.action.Action.{Action}
use Rattle.pv_table.specs.declared.action.Action.TheVariants.{Create, Copy, Adjust, Idle}
use Rattle.pv_table.specs.declared.action.Making.{Making}
use Rattle.pv_table.specs.declared.action.Adjustment.{Adjustment}
use Rattle.pv_table.specs.Active.{in_create_order}
use Rattle.pv_table.specs.ActionTable.{action_of}
use Rattle.pv_table.specs.Created.{by_turn, by_line, created}
use Rattle.pv_steps.specs.Doing.{after_each, one_is_refused}
use Rattle.pv_table.specs.Effects.{carried_out, is_adjusted, prepare, turn_after, turned, turns}
use Rattle.pv_table.specs.Pointwise.{after_turn}
use Rattle.pv_table.specs.Reaching.{names, path_in}
use Rattle.pv_table.specs.Repeatable.{sets_of}
use Rattle.pv_table.specs.Turns.{Refused, making_turn, copied, refused_at, View, view_of, copying_turn, has_something, decide, Turn}
use Rattle.pv_laws.specs.CarryingOut.{IsCarriedOut}
use Rattle.pv_laws.specs.Swept.{LeavesNoStagingName, PutsObject}
use Rattle.pv_laws.proofs.Frames.{turn_refused}
use Rattle.pv_laws.proofs.Lines.{turns_made, turns_adjust, turns_idle, line_is_plain, copy_path}
use Rattle.pv_laws.proofs.Making.{IsDone, making_done, does_stay, turn_by}
use Rattle.pv_walk.proofs.PreparedLaws.{object_state_none, has_some, in_prefixes, in_parents, all_taken-none, all_taken-stage}
use Rattle.pv_table.proofs.EffectLaws.{place-prepare}
use Rattle.pv_table.proofs.ListedLaws.{all_in_order}
use Rattle.pv_laws.proofs.Prepared.{prepared-at, swept, filled, some_named}
use Rattle.pv_laws.proofs.Sets.{is_adjustment, IsMaking, line_is_making, adjusted_none, asked, sets_adjust}
use Rattle.pv_laws.proofs.Adjustment.{turn_open, first_turn, adjust_point}
use Rattle.pv_laws.proofs.AllPoints.{turns_copy}
use Rattle.pv_laws.proofs.Copies.{copying_done, decide_some}
use Rattle.pv_laws.proofs.CopyShapes.{IsCopyTurn, puts, becomes, leaves, copy_turns}
use Rattle.pv_lines.specs.Lines.{IsLine}
use Rattle.pv_table.specs.declared.action.Copying.{Copying}
use Rattle.pv_path.proofs.Tests.{true_not_false}

-- ---- paths with a staging name

-- none is above a path without one
staged_no_prefix : (path q : Path) → has_staging path ≡ false → has_staging q ≡ true → is_prefix q path ≡ false
staged_no_prefix path q plain staged = false_from_ne_true _ (λ e. true_not_false (has_staging path) (has_staging-extends q path e staged) plain)

staged_differs : (path q : Path) → has_staging path ≡ false → has_staging q ≡ true → q ≢ path
staged_differs path q plain staged e = true_not_false (has_staging path) (ap has_staging (sym e) ∙ staged) plain

-- preparing puts nothing there
ready_staged : (now : ℕ) (path : Path) → has_staging path ≡ false → (t : Files) (q : Path) → has_staging q ≡ true → swept now path (places t) q ≡ None → object_states_of (places (prepare now path t)) q ≡ None
ready_staged now path plain t q staged gone =
    ap (option_map object_state_of) (place-prepare now path t q)
    ∙ prepared-at now path (places t) q
    ∙ ap (λ b. filled b (object_states_of (swept now path (places t)) q)) (in_parents q path (staged_differs path q plain staged) ∙ ap (λ b. b && has_some q) (staged_no_prefix path q plain staged))
    ∙ ap (option_map object_state_of) gone

swept_place : (now : ℕ) (path place : Path) (t : Files) → is_prefix place path ≡ true → place ≢ [] → swept now path (places t) (staging_of place) ≡ None
swept_place now path place t high some = all_taken-stage now (prefixes path) (places t) place (in_prefixes place path ∙ ap (λ b. b && has_some place) high ∙ some_named place some)

module _ (now : ℕ) (making : Making) (is : IsMaking making) (path : Path) (plain : has_staging path ≡ false) (t : Files) where
  abbrev ready : Files
  ready = prepare now path t

  is_done : IsDone now (Create making) path ready (making_turn making (object_states_of (places ready) path))
  is_done = making_done now making path ready is (object_states_of (places ready) path)

  abbrev left : Path → Option ObjectState
  left q = object_states_of (places (carried_out now (Create making) path t)) q

  -- nor does what is done at the path
  nothing_below : (b : Option ObjectState) (name : List ℕ) (rest : Path) → after_turn (making_turn making b) (name ∷ rest) None ≡ None
  nothing_below None name rest = refl
  nothing_below (Some x) name rest = by (does_stay making is making.renew x) (same_kind (new_kind making.new.what) x.body.kind)
    where
      by : (stay same : Bool) → after_turn (turn_by making is stay same x) (name ∷ rest) None ≡ None
      by false same = refl
      by true true = refl
      by true false = refl

  nothing_left : (q : Path) → has_staging q ≡ true → swept now path (places t) q ≡ None → left q ≡ None
  nothing_left q staged gone = by (rest_under path q) refl
    where
      by : (r : Option Path) → rest_under path q ≡ r → left q ≡ None
      by None e = is_done.outside q e ∙ ready_staged now path plain t q staged gone
      by (Some []) e = absurd (staged_differs path q plain staged (rest_under-Some path q [] e ∙ append-nil path))
      by (Some (name ∷ rest)) e =
          is_done.inside q (name ∷ rest) e
          ∙ ap (after_turn (making_turn making (object_states_of (places ready) path)) (name ∷ rest)) (ready_staged now path plain t q staged gone)
          ∙ nothing_below (object_states_of (places ready) path) name rest

  made_absent : (q : Path) → has_staging q ≡ true → IsAbsentIn (places t) q → left q ≡ None
  made_absent q staged none = nothing_left q staged (all_taken-none now (staging_names path) (places t) q none)

  made_stage : (place : Path) → is_prefix place path ≡ true → place ≢ [] → left (staging_of place) ≡ None
  made_stage place high some = nothing_left (staging_of place) (has_staging-staging_of place some) (swept_place now path place t high some)

module _ (now : ℕ) (copying : Copying) (adjust : list_all is_adjustment copying.sets ≡ true) (path : Path) (plain : has_staging path ≡ false) (t : Files) where
  abbrev copied_turn : Turn
  copied_turn = decide (Copy copying) (view_of (prepare now path t)) path

  -- what a copy does at its path, and that it puts nothing at a staging name
  pub record IsCleanTurn (turn : Turn) : Type 0 where
    pub done : IsDone now (Copy copying) path (prepare now path t) turn
    pub clean : (name : List ℕ) (rest : Path) → has_staging (name ∷ rest) ≡ true → after_turn turn (name ∷ rest) None ≡ None

  decide_none : (v : View) → v.at copying.source ≡ None → decide (Copy copying) v path ≡ Turn.Nothing
  decide_none v e = rw e

  clean_turn : (turn : Turn) → IsCopyTurn copying (view_of (prepare now path t)) turn → (name : List ℕ) (rest : Path) → has_staging (name ∷ rest) ≡ true → after_turn turn (name ∷ rest) None ≡ None
  clean_turn turn (puts e) name rest h = ap (λ x. after_turn x (name ∷ rest) None) e ∙ ap (λ b. cond b None (object_states_of (places (prepare now path t)) (copying.source ++ name ∷ rest))) h
  clean_turn turn (becomes e) name rest h = ap (λ x. after_turn x (name ∷ rest) None) e
  clean_turn turn (leaves kind e) name rest h = ap (λ x. after_turn x (name ∷ rest) None) e

  copied_clean : IsCleanTurn copied_turn
  copied_clean = by (object_states_of (places (prepare now path t)) copying.source) refl
    where
      by : (b : Option ObjectState) → object_states_of (places (prepare now path t)) copying.source ≡ b → IsCleanTurn copied_turn
      by None e = subst IsCleanTurn (sym (decide_none (view_of (prepare now path t)) e)) (record { done = record { outside = λ q f. refl; inside = λ q rest f. refl }; clean = λ name rest h. refl })
      by (Some b) e = subst IsCleanTurn (sym (decide_some copying (view_of (prepare now path t)) path b e)) (record {
        done = copying_done now copying path (prepare now path t) adjust b.body.kind (object_states_of (places (prepare now path t)) path);
        clean = clean_turn (copying_turn copying (view_of (prepare now path t)) path b.body.kind (object_states_of (places (prepare now path t)) path)) (copy_turns copying (view_of (prepare now path t)) path b.body.kind (object_states_of (places (prepare now path t)) path));
      })

  copied_nothing : (q : Path) → has_staging q ≡ true → swept now path (places t) q ≡ None → object_states_of (places (turned now (Copy copying) path copied_turn (prepare now path t))) q ≡ None
  copied_nothing q staged gone = by (rest_under path q) refl
    where
      below_staged : (rest : Path) → q ≡ path ++ rest → has_staging rest ≡ true
      below_staged rest e = sym (ap (λ b. b || has_staging rest) plain) ∙ sym (has_staging-append path rest) ∙ ap has_staging (sym e) ∙ staged

      by : (r : Option Path) → rest_under path q ≡ r → object_states_of (places (turned now (Copy copying) path copied_turn (prepare now path t))) q ≡ None
      by None e = copied_clean.done.outside q e ∙ ready_staged now path plain t q staged gone
      by (Some []) e = absurd (staged_differs path q plain staged (rest_under-Some path q [] e ∙ append-nil path))
      by (Some (name ∷ rest)) e =
          copied_clean.done.inside q (name ∷ rest) e
          ∙ ap (after_turn copied_turn (name ∷ rest)) (ready_staged now path plain t q staged gone)
          ∙ copied_clean.clean name rest (below_staged (name ∷ rest) (rest_under-Some path q (name ∷ rest) e))

  carried_copy : (b : Bool) → is_some (places t copying.source) ≡ b → carried_out now (Copy copying) path t ≡ cond b (turned now (Copy copying) path copied_turn (prepare now path t)) t
  carried_copy b e = ap (λ c. cond c (turned now (Copy copying) path copied_turn (prepare now path t)) t) e

  copied_absent : (q : Path) → has_staging q ≡ true → IsAbsentIn (places t) q → IsAbsentIn (places (carried_out now (Copy copying) path t)) q
  copied_absent q staged none = subst (λ (u : Files). IsAbsentIn (places u) q) (sym (carried_copy (is_some (places t copying.source)) refl)) (by (is_some (places t copying.source)))
    where
      by : (b : Bool) → IsAbsentIn (places (cond b (turned now (Copy copying) path copied_turn (prepare now path t)) t)) q
      by true = object_state_none _ (copied_nothing q staged (all_taken-none now (staging_names path) (places t) q none))
      by false = none

  copied_stage : is_some (places t copying.source) ≡ true → (place : Path) → is_prefix place path ≡ true → place ≢ [] → IsAbsentIn (places (carried_out now (Copy copying) path t)) (staging_of place)
  copied_stage there place high some = subst (λ (u : Files). IsAbsentIn (places u) (staging_of place)) (sym (carried_copy true there)) (
      object_state_none _ (copied_nothing (staging_of place) (has_staging-staging_of place some) (swept_place now path place t high some)))

-- ---- turns

made_path : (line : Line) → IsLine line → (making : Making) → action_of line ≡ Create making → has_staging (path_in line.path) ≡ false
made_path line is making e = (line_is_plain line is (ap copied e)).unstaged

module _ (now : ℕ) (line : Line) (is : IsLine line) (q : Path) (staged : has_staging q ≡ true) where
  -- what is absent stays absent
  abbrev StaysAbsent : Files → Type 0
  StaysAbsent u = IsAbsentIn (places u) q

  turn_absent : (path : Path) (t : Files) → StaysAbsent t → (refused_at line path (places t) ≡ None → StaysAbsent (carried_out now (action_of line) path t)) → StaysAbsent (turn_after now line path t)
  turn_absent path t none done = by (refused_at line path (places t)) refl
    where
      by : (r : Option Refused) → refused_at line path (places t) ≡ r → StaysAbsent (turn_after now line path t)
      by None e = subst StaysAbsent (sym (turn_open now line path t e)) (done e)
      by (Some place) e = subst StaysAbsent (sym (turn_refused now line path t place e)) none

  made_turn : (making : Making) → action_of line ≡ Create making → (t : Files) → StaysAbsent t → StaysAbsent (turn_after now line (path_in line.path) t)
  made_turn making e t none = turn_absent (path_in line.path) t none (λ free. subst (λ (d : Action). StaysAbsent (carried_out now d (path_in line.path) t)) (sym e)
      (object_state_none _ (made_absent now making (line_is_making line making e) (path_in line.path) (made_path line is making e) t q staged none)))

  copied_turns : (copying : Copying) → action_of line ≡ Copy copying → (t : Files) → StaysAbsent t → StaysAbsent (turn_after now line (path_in line.path) t)
  copied_turns copying e t none = turn_absent (path_in line.path) t none (λ free. subst (λ (d : Action). StaysAbsent (carried_out now d (path_in line.path) t)) (sym e)
      (copied_absent now copying (subst (λ d. list_all is_adjustment (sets_of d) ≡ true) e (sets_adjust line (action_of line) (asked line))) (path_in line.path) (copy_path line is copying e).0 t q staged none))

  adjust_turn : (adjustment : Adjustment) → action_of line ≡ Adjust adjustment → (path : Path) (t : Files) → StaysAbsent t → StaysAbsent (turn_after now line path t)
  adjust_turn adjustment e path t none = turn_absent path t none (λ free. subst (λ (d : Action). StaysAbsent (carried_out now d path t)) (sym e) (object_state_none _ touched))
    where
      adjust : list_all is_adjustment adjustment.sets ≡ true
      adjust = subst (λ d. list_all is_adjustment (sets_of d) ≡ true) e (sets_adjust line (action_of line) (asked line))

      by : (b : Bool) → cond b (run adjustment.sets None) None ≡ None
      by true = adjusted_none adjustment.sets adjust
      by false = refl

      touched : object_states_of (places (carried_out now (Adjust adjustment) path t)) q ≡ None
      touched = adjust_point now adjustment adjust path t q ∙ ap (λ o. cond (is_adjusted adjustment path q) (run adjustment.sets (option_map object_state_of o)) (option_map object_state_of o)) none ∙ by (is_adjusted adjustment path q)

  adjust_turns : (adjustment : Adjustment) → action_of line ≡ Adjust adjustment → (paths : List Path) (t : Files) → StaysAbsent t → StaysAbsent (after_each (by_turn now line) paths t)
  adjust_turns adjustment e [] t none = none
  adjust_turns adjustment e (p ∷ ps) t none = adjust_turns adjustment e ps (turn_after now line p t) (adjust_turn adjustment e p t none)

  pub line_absent : (t : Files) → StaysAbsent t → StaysAbsent ((by_line now).after line t)
  line_absent t none = by (action_of line) refl
    where
      by : (d : Action) → action_of line ≡ d → StaysAbsent ((by_line now).after line t)
      by (Create making) e = subst (λ paths. StaysAbsent (after_each (by_turn now line) paths t)) (sym (turns_made line making t e)) (made_turn making e t none)
      by (Copy copying) e = subst (λ paths. StaysAbsent (after_each (by_turn now line) paths t)) (sym (turns_copy line copying t e)) (copied_turns copying e t none)
      by (Adjust adjustment) e = subst (λ paths. StaysAbsent (after_each (by_turn now line) paths t)) (sym (turns_adjust line adjustment t e)) (adjust_turns adjustment e (filter (names line) (fin.keys t)) t none)
      by Idle e = subst (λ paths. StaysAbsent (after_each (by_turn now line) paths t)) (sym (turns_idle line t e)) none

-- ---- runs

pub lines_absent : (now : ℕ) (q : Path) → has_staging q ≡ true → (lines : List Line) (t : Files) → AllByRecursion IsLine lines → IsAbsentIn (places t) q → IsAbsentIn (places (after_each (by_line now) lines t)) q
lines_absent now q staged [] t are none = none
lines_absent now q staged (line ∷ lines) t are none = lines_absent now q staged lines ((by_line now).after line t) are.1 (line_absent now line are.0 q staged t none)

-- a line that is carried out leaves none along its path
module _ (now : ℕ) (line : Line) (is : IsLine line) (t : Files) (quiet : (by_line now).is_refused line t ≡ false) (place : Path) (high : is_prefix place (path_in line.path) ≡ true) (some : place ≢ []) where
  free_at : turns line t ≡ path_in line.path ∷ [] → refused_at line (path_in line.path) (places t) ≡ None
  free_at e = (first_turn now line (path_in line.path) [] t (ap (λ paths. one_is_refused (by_turn now line) paths t) (sym e) ∙ quiet)).0

  after_at : turns line t ≡ path_in line.path ∷ [] → IsAbsentIn (places (carried_out now (action_of line) (path_in line.path) t)) (staging_of place) → IsAbsentIn (places ((by_line now).after line t)) (staging_of place)
  after_at e none =
      subst (λ paths. IsAbsentIn (places (after_each (by_turn now line) paths t)) (staging_of place)) (sym e)
      (subst (λ (u : Files). IsAbsentIn (places u) (staging_of place)) (sym (turn_open now line (path_in line.path) t (free_at e))) none)

  made_line_stage : (making : Making) → action_of line ≡ Create making → IsAbsentIn (places ((by_line now).after line t)) (staging_of place)
  made_line_stage making e = after_at (turns_made line making t e) (subst (λ (d : Action). IsAbsentIn (places (carried_out now d (path_in line.path) t)) (staging_of place)) (sym e)
      (object_state_none _ (made_stage now making (line_is_making line making e) (path_in line.path) (made_path line is making e) t place high some)))

  copied_line_stage : (copying : Copying) → action_of line ≡ Copy copying → has_something (places t) (action_of line) ≡ true → IsAbsentIn (places ((by_line now).after line t)) (staging_of place)
  copied_line_stage copying e there = after_at (turns_copy line copying t e) (subst (λ (d : Action). IsAbsentIn (places (carried_out now d (path_in line.path) t)) (staging_of place)) (sym e)
      (copied_stage now copying (subst (λ d. list_all is_adjustment (sets_of d) ≡ true) e (sets_adjust line (action_of line) (asked line))) (path_in line.path) (copy_path line is copying e).0 t
      (sym (ap (has_something (places t)) e) ∙ there) place high some))

pub lines_stage : (now : ℕ) (line : Line) → PutsObject line → (place : Path) → is_prefix place (path_in line.path) ≡ true → place ≢ []
    → (lines : List Line) (t : Files) → AllByRecursion IsLine lines → IsCarriedOut line lines now t → IsAbsentIn (places (after_each (by_line now) lines t)) (staging_of place)
lines_stage now line which place high some [] t are h = absurd h
lines_stage now line which place high some (first ∷ lines) t are (inl h) =
    lines_absent now (staging_of place) (has_staging-staging_of place some) lines ((by_line now).after first t) are.1 (by which)
  where
    high_there : is_prefix place (path_in first.path) ≡ true
    high_there = ap (λ (l : Line). is_prefix place (path_in l.path)) h.0 ∙ high

    by : PutsObject line → IsAbsentIn (places ((by_line now).after first t)) (staging_of place)
    by (inl made) = made_line_stage now first are.0 t h.1 place high_there some made.0 (ap action_of h.0 ∙ made.1)
    by (inr copied_so) = copied_line_stage now first are.0 t h.1 place high_there some copied_so.0 (ap action_of h.0 ∙ copied_so.1) h.2
lines_stage now line which place high some (first ∷ lines) t are (inr h) = lines_stage now line which place high some lines ((by_line now).after first t) are.1 h

-- so a complete run of lines leaves none
pub run_leaves_none : (lines : List Line) → AllByRecursion IsLine lines → (now : ℕ) (t : Files) → LeavesNoStagingName lines now t (created lines now t)
run_leaves_none lines are now t line place is carried high some = lines_stage now line is place high some (in_create_order lines) t (all_in_order IsLine lines are) carried
