-- Intermediate states of creating and of the boot command, and what each of their steps gives (systemd-tmpfiles(8)).
use Rattle.std.specs.Prelude.{ℕ, List, [], ◌∷◌, ⊤}
use Rattle.pv_create.specs.OnTheWay.{GiveWhatLinesLeave, IsStoppedBetween}
use Rattle.pv_lines.specs.declared.line.Line.{Line}
use Rattle.pv_steps.specs.declared.step.Step.{Step}
use Rattle.pv_steps.specs.Trees.{Files}
use Rattle.pv_table.specs.Removed.{removed}
use Rattle.provision_run.specs.Booted.{IsBootBetween}
use Rattle.provision_run.specs.declared.phase.Phase.{Phase}
use Rattle.provision_run.specs.declared.phase.Phase.TheVariants.{Remove, Create}

-- A run is stopped after any number of its steps. For creating and the boot command, each path is as
-- `IsStoppedBetween` or `IsBootBetween` says. Of other phases nothing is said here.
abbrev pub IsBetweenBy : List Phase → List Line → ℕ → Files → List Step → Type 0
IsBetweenBy (Create ∷ []) lines now t steps = IsStoppedBetween lines now t steps
IsBetweenBy (Remove ∷ Create ∷ []) lines now t steps = IsBootBetween lines now t steps
IsBetweenBy phases lines now t steps = ⊤

-- Each step is as `GiveWhatLinesLeave` says. In the boot command, creating begins with the tree that removing leaves.
-- Of other phases nothing is said here.
abbrev pub GiveBy : List Phase → List Line → ℕ → Files → List Step → Type 0
GiveBy (Create ∷ []) lines now t steps = GiveWhatLinesLeave lines now t steps
GiveBy (Remove ∷ Create ∷ []) lines now t steps = GiveWhatLinesLeave lines now (removed lines now t) steps
GiveBy phases lines now t steps = ⊤
