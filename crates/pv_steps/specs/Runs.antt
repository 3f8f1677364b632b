-- Runs: lists of steps done one after the other, and what holds of the trees between them and of each step.
use Rattle.std.specs.Prelude.{◌≡◌, ℕ, List, [], ◌∷◌, ◌++◌}
use Rattle.std.specs.List.{AllByRecursion}
use Rattle.pv_steps.specs.declared.step.Step.{Step}
use Rattle.pv_steps.specs.declared.step.Step.TheVariants.{SetStamps}
use Rattle.pv_steps.specs.Trees.{Files, places}
use Rattle.pv_steps.specs.Steps.{Can, StepFits, after}
use Rattle.pv_steps.specs.Same.{Differ}

-- The tree after these steps, one after the other, all with the time `now`.
abbrev pub after_all : Files → List Step → ℕ → Files
after_all t [] now = t
after_all t (step ∷ steps) now = after_all (after t step now) steps now

-- A step changes more than timestamps. SetStamps always counts as such a step.
abbrev pub HasEffect : Files → Step → ℕ → Type 0
HasEffect t (SetStamps path access modify) now = Unit {0}
HasEffect t step now = Differ t (after t step now)

-- A step is effective: it can be done, its parts are in range, and it changes more than timestamps. Runs do only
-- such steps.
pub record IsEffective (t : Files) (step : Step) (now : ℕ) : Type 0 where
  pub can : Can (places t) step
  pub fits : StepFits step
  pub busy : HasEffect t step now

-- P holds of the tree before the steps and after each of them. Each step is effective when it is done.
abbrev pub Along : (Files → Type 0) → Files → List Step → ℕ → Type 0
Along P t [] now = P t
Along P t (step ∷ steps) now = P t × (IsEffective t step now × Along P (after t step now) steps now)

-- A run led from the tree `t`, with the recorded steps `h`, to the tree `u`, with the recorded steps `k`.
pub record Ran (P : Files → Type 0) (Q : Step → Type 0) (now : ℕ) (t : Files) (h : List Step) (u : Files) (k : List Step) : Type 0 where
  pub steps : List Step
  -- Its steps were added to the record.
  pub recorded : k ≡ h ++ steps
  -- They lead from the one tree to the other.
  pub reached : u ≡ after_all t steps now
  -- P holds before the steps and after each of them, and each is effective.
  pub along : Along P t steps now
  -- Q holds of each step.
  pub gives : AllByRecursion Q steps
