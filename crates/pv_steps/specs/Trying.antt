-- Steps that are tried one after the other: when they may be asked for, and what is left if all are done or one is
-- not (this project's own).
use Rattle.std.specs.Prelude.{◌≡◌, ◌≢◌, ℕ, List, [], ◌∷◌, ◌++◌, Result, OnOk, OnErr, ⊤}
use Rattle.std.specs.List.{AllByRecursion}
use Rattle.pv_steps.specs.declared.step.Step.{Step}
use Rattle.pv_steps.specs.declared.tree.Tree.{Ghosts}
use Rattle.pv_steps.specs.declared.tree.TreeFault.{TreeFault}
use Rattle.pv_steps.specs.Acting.{IsLast}
use Rattle.pv_steps.specs.Counting.{refused, faults_after}
use Rattle.pv_steps.specs.Runs.{after_all}
use Rattle.pv_steps.specs.Steps.{Can, StepFits, after}
use Rattle.pv_steps.specs.Trees.{Files, places}

-- Each step can be done after those before it.
abbrev pub CanAll : Files → List Step → ℕ → Type 0
CanAll t [] now = ⊤
CanAll t (step ∷ steps) now = Can (places t) step × CanAll (after t step now) steps now

-- Some steps were tried one after the other. A prefix `done` of them was done and recorded.
pub record TriedAll {S : Type 0} (tree : Ghosts S) (steps : List Step) (now : ℕ) (old new : S) (r : Result (Unit {0}) TreeFault) : Type 0 where
  pub done : List Step
  pub left : List Step
  pub parts : done ++ left ≡ steps
  pub state : tree.state new ≡ after_all (tree.state old) done now
  pub recorded : tree.steps new ≡ tree.steps old ++ done
  pub fits : AllByRecursion StepFits done
  -- If the answer is `Ok`, all of them were done.
  pub whole : OnOk r (left ≡ [])
  -- If it is a fault, not all of them were done.
  pub short : OnErr r (left ≢ [])
  pub reaches : tree.reaches old new
  -- The tree counted one fault if it refused the next step, otherwise none.
  pub counted : tree.faults new ≡ faults_after (refused r) (tree.faults old)
  pub last : IsLast tree new r
