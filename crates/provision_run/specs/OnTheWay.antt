-- What a run has left after any number of its steps, and what each of its steps gives, by what its options ask for
-- (systemd-tmpfiles(8)).
use Rattle.std.specs.Prelude.{ℕ, List, ⊤}
use Rattle.provision_run.specs.PhasesOnTheWay.{GiveBy, IsBetweenBy}
use Rattle.provision_run.specs.Phases.{phases_of}
use Rattle.pv_steps.specs.declared.step.Step.{Step}
use Rattle.pv_steps.specs.Trees.{Files}
use Rattle.pv_text.specs.Facts.{Values}
use Rattle.pv_words.specs.declared.options.Options.{Options}
use Rattle.provision_run.specs.declared.task.Task.{Task}
use Rattle.provision_run.specs.declared.task.Task.TheVariants.{Phases, Report, Explain, Accounts}
use Rattle.provision_run.specs.Phased.{run_lines}

-- By the task. For phases, each path is as `IsBetweenBy` says, and each step as `GiveBy` says. A report and an
-- explanation do no step. For systemd-sysusers, `AccountWay` says which texts are new.
unfoldable pub IsOnTheWayIn : Task → Options → Values → ℕ → Files → List Step → Type 0
IsOnTheWayIn Phases options facts moment t steps =
    IsBetweenBy (phases_of options) (run_lines options facts t) moment t steps × GiveBy (phases_of options) (run_lines options facts t) moment t steps
IsOnTheWayIn Report options facts moment t steps = ⊤
IsOnTheWayIn Explain options facts moment t steps = ⊤
IsOnTheWayIn Accounts options facts moment t steps = ⊤
