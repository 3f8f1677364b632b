-- Calls that change a tree by steps: how many steps a call asks for, and what holds of the tree before and after it
-- and of its answer (this project's own). `tree` gives what a type of trees lets clauses see: its state, the
-- recorded steps, and the count of refused steps.
use Rattle.std.specs.Prelude.{◌≡◌, ℕ, ◌+◌, ◌-◌, ◌≤◌, List, [], ◌∷◌, ◌++◌, length, drop, Result, OnOk, OnErr, IsErrOf}
use Rattle.pv_steps.specs.declared.step.Step.{Step}
use Rattle.pv_steps.specs.declared.tree.Tree.{Ghosts}
use Rattle.pv_steps.specs.declared.tree.TreeFault.{TreeFault}
use Rattle.pv_steps.specs.declared.tree.TreeFault.TheVariants.{Failed}
pub use Rattle.pv_steps.specs.Counting.{refused}
use Rattle.pv_steps.specs.Counting.{faults_after}
use Rattle.pv_steps.specs.Trees.{Files}
use Rattle.pv_steps.specs.Steps.{StepFits, after}
use Rattle.pv_steps.specs.Runs.{Ran}

-- The steps that a call has done: those that the tree has recorded since it began.
abbrev pub steps_done : {S : Type 0} → Ghosts S → S → S → List Step
steps_done tree old new = drop (length (tree.steps old)) (tree.steps new)

-- How many steps a call has asked for: those that were done, and one more if the tree refused it.
abbrev pub asked : {A : Type 0} → Result A TreeFault → List Step → List Step → ℕ
asked r old new = (length new - length old) + refused r

-- If the answer is `Failed`, no step was done after the one that the tree refused.
abbrev pub IsLast : {S A : Type 0} → Ghosts S → S → Result A TreeFault → Type 0
IsLast tree new r = IsErrOf r Failed → tree.refused_at new ≡ length (tree.steps new)

-- One step was tried. If the answer is `Ok`, it was done and recorded, and otherwise neither the state nor the
-- record has changed. If the answer is `Failed`, the tree counted one fault, otherwise none.
pub record Tried {S : Type 0} (tree : Ghosts S) (step : Step) (now : ℕ) (old new : S) (r : Result (Unit {0}) TreeFault) : Type 0 where
  pub state : OnOk r (tree.state new ≡ after (tree.state old) step now)
  pub recorded : OnOk r (tree.steps new ≡ tree.steps old ++ step ∷ [])
  pub fits : OnOk r (StepFits step)
  pub kept : OnErr r (tree.state new ≡ tree.state old)
  pub unrecorded : OnErr r (tree.steps new ≡ tree.steps old)
  pub reaches : tree.reaches old new
  pub counted : tree.faults new ≡ faults_after (refused r) (tree.faults old)
  pub last : IsLast tree new r

-- A call has changed the tree by steps, all with the time `now`. P holds of the tree before them and after each of
-- them, and Q of each step.
pub record Acted {S A : Type 0} (tree : Ghosts S) (P : Files → Type 0) (Q : Step → Type 0) (most now : ℕ) (old new : S) (r : Result A TreeFault) : Type 0 where
  pub ran : Ran P Q now (tree.state old) (tree.steps old) (tree.state new) (tree.steps new)
  -- At most `most` steps were asked for. A refused one counts.
  pub bound : asked r (tree.steps old) (tree.steps new) ≤ most
  pub reaches : tree.reaches old new
  -- If the answer is `Failed`, the tree counted one fault, otherwise none.
  pub counted : tree.faults new ≡ faults_after (refused r) (tree.faults old)
  -- A refused step was the last one.
  pub last : IsLast tree new r
