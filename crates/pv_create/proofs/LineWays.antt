-- Laws of one line at its turn, by what it asks for: what it may have left on its way, and its steps.
use Rattle.std.specs.Prelude.{◌≡◌, ℕ, List, [], ◌∷◌}
use Rattle.std.proofs.Common.{refl, subst, inl, inr}
use Rattle.pv_create.specs.Reached.{AdjustingInOrder, GivesReached}
use Rattle.pv_steps.specs.Courses.{Course, Partway, IsStepOfSome, single}
use Rattle.pv_lines.specs.declared.line.Line.{Line}
use Rattle.pv_create.specs.OnTheWay.{OnWay, IsStepOf, IsStepAt, TurnWay, plain_course, turn_course, LineWay, IsLineStep}
use Rattle.pv_path.specs.Paths.{Path}
use Rattle.pv_steps.specs.declared.step.Step.{Step}
use Rattle.pv_steps.specs.Same.{Same}
use Rattle.pv_steps.specs.Trees.{Files}
use Rattle.pv_table.specs.declared.action.Copying.{Copying}
use Rattle.pv_table.specs.declared.action.Action.{Action}
use Rattle.pv_table.specs.declared.action.Action.TheVariants.{Create, Copy, Adjust, Idle}
use Rattle.pv_table.specs.declared.action.Making.{Making}
use Rattle.pv_table.specs.declared.action.Adjustment.{Adjustment}
use Rattle.pv_table.specs.ActionTable.{action_of}
use Rattle.pv_table.specs.Created.{by_turn}
use Rattle.pv_table.specs.Effects.{turn_after, turns}
use Rattle.pv_table.specs.Reaching.{path_in}

-- a line that adjusts what is there, at one path
abbrev pub adjustment_course : ℕ → Line → Adjustment → Course Path
adjustment_course now line adjustment = single (by_turn now line) (AdjustingInOrder adjustment) (GivesReached adjustment)

-- on the way, and a step, by what a line asks for
abbrev pub WayOf : Action → ℕ → Line → Files → Files → Type 0
WayOf (Create making) now line t u = OnWay now line (path_in line.path) t u
WayOf (Copy copying) now line t u = OnWay now line (path_in line.path) t u
WayOf (Adjust adjustment) now line t u = Partway (adjustment_course now line adjustment) (turns line t) t u
WayOf Idle now line t u = Same t u

abbrev pub IsStepBy : Action → ℕ → Line → Files → Step → Type 0
IsStepBy (Create making) now line t step = IsStepOf now line (path_in line.path) t step
IsStepBy (Copy copying) now line t step = IsStepOf now line (path_in line.path) t step
IsStepBy (Adjust adjustment) now line t step = IsStepOfSome (adjustment_course now line adjustment) (turns line t) t step
IsStepBy Idle now line t step = ⊥

-- ---- the paths at which it is carried out

pub making_turns : (line : Line) (making : Making) → action_of line ≡ Create making → (t : Files) → turns line t ≡ path_in line.path ∷ []
making_turns line making e t = rw e refl

pub copying_turns : (line : Line) (copying : Copying) → action_of line ≡ Copy copying → (t : Files) → turns line t ≡ path_in line.path ∷ []
copying_turns line copying e t = rw e refl

pub idle_turns : (line : Line) → action_of line ≡ Idle → (t : Files) → turns line t ≡ []
idle_turns line e t = rw e refl

-- ---- where it was cut short does not matter here

plain_way : (now : ℕ) (line : Line) (paths : List Path) (t u : Files) → Partway (turn_course now line) paths t u → Partway (plain_course now line) paths t u
plain_way now line [] t u same = same
plain_way now line (path ∷ paths) t u (inl way) = inl way
plain_way now line (path ∷ paths) t u (inr later) = inr (plain_way now line paths (turn_after now line path t) u later)

plain_step : (now : ℕ) (line : Line) (paths : List Path) (t : Files) (step : Step) → IsStepOfSome (turn_course now line) paths t step → IsStepOfSome (plain_course now line) paths t step
plain_step now line [] t step none = none
plain_step now line (path ∷ paths) t step (inl own) = inl own
plain_step now line (path ∷ paths) t step (inr later) = inr (plain_step now line paths (turn_after now line path t) step later)

-- ---- by what it asks for

module _ (now : ℕ) (line : Line) (t : Files) where
  abbrev course : Action → Course Path
  course d = single (by_turn now line) (TurnWay d now line) (IsStepAt d now line)

  abbrev Way : Action → List Path → Files → Type 0
  Way d paths u = Partway (course d) paths t u

  abbrev Steps : Action → List Path → Step → Type 0
  Steps d paths step = IsStepOfSome (course d) paths t step

  one_way : (d : Action) (u : Files) → ((path : Path) → TurnWay d now line path t u → OnWay now line path t u) → (path : Path) → Way d (path ∷ []) u → OnWay now line path t u
  one_way d u on path (inl way) = on path way
  one_way d u on path (inr same) = OnWay.whole same

  one_step : (d : Action) (step : Step) → ((path : Path) → IsStepAt d now line path t step → IsStepOf now line path t step) → (path : Path) → Steps d (path ∷ []) step → IsStepOf now line path t step
  one_step d step on path (inl own) = on path own
  one_step d step on path (inr none) = absurd none

  pub way_of : (u : Files) → LineWay now line t u → WayOf (action_of line) now line t u
  way_of u way = by (action_of line) refl (plain_way now line (turns line t) t u way)
    where
      by : (d : Action) → action_of line ≡ d → Way d (turns line t) u → WayOf d now line t u
      by (Create making) e h = one_way (Create making) u (λ path on. on) (path_in line.path) (subst (λ (paths : List Path). Way (Create making) paths u) (making_turns line making e t) h)
      by (Copy copying) e h = one_way (Copy copying) u (λ path on. on) (path_in line.path) (subst (λ (paths : List Path). Way (Copy copying) paths u) (copying_turns line copying e t) h)
      by (Adjust adjustment) e h = h
      by Idle e h = subst (λ (paths : List Path). Way Idle paths u) (idle_turns line e t) h

  pub step_of : (step : Step) → IsLineStep now line t step → IsStepBy (action_of line) now line t step
  step_of step own = by (action_of line) refl (plain_step now line (turns line t) t step own)
    where
      by : (d : Action) → action_of line ≡ d → Steps d (turns line t) step → IsStepBy d now line t step
      by (Create making) e h = one_step (Create making) step (λ path on. on) (path_in line.path) (subst (λ (paths : List Path). Steps (Create making) paths step) (making_turns line making e t) h)
      by (Copy copying) e h = one_step (Copy copying) step (λ path on. on) (path_in line.path) (subst (λ (paths : List Path). Steps (Copy copying) paths step) (copying_turns line copying e t) h)
      by (Adjust adjustment) e h = h
      by Idle e h = subst (λ (paths : List Path). Steps Idle paths step) (idle_turns line e t) h
