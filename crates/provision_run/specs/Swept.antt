-- What a complete run leaves at staging names, by what its options ask for (systemd-tmpfiles(8),
-- systemd-sysusers(8)).
use Rattle.std.specs.Prelude.{ℕ, ⊤}
use Rattle.pv_sysusers.specs.Swept as accounts
use Rattle.provision_run.specs.Phases.{phases_of}
use Rattle.provision_run.specs.PhasesSwept.{IsSweptBy}
use Rattle.pv_steps.specs.Trees.{Files}
use Rattle.pv_text.specs.Facts.{Values}
use Rattle.pv_words.specs.declared.options.Options.{Options}
use Rattle.provision_run.specs.declared.task.Task.{Task}
use Rattle.provision_run.specs.declared.task.Task.TheVariants.{Phases, Report, Explain, Accounts}
use Rattle.provision_run.specs.Accounts.{run_requests}
use Rattle.provision_run.specs.Phased.{run_lines}

-- By the task. Creating leaves nothing at the staging names of what the active lines made. systemd-sysusers leaves
-- nothing at those of `/etc` and the account files. A report and an explanation do no step.
unfoldable pub IsSweptIn : Task → Options → Values → ℕ → Files → Files → Type 0
IsSweptIn Phases options facts moment t u = IsSweptBy (phases_of options) (run_lines options facts t) moment t u
IsSweptIn Report options facts moment t u = ⊤
IsSweptIn Explain options facts moment t u = ⊤
IsSweptIn Accounts options facts moment t u = accounts.LeavesNoStagingName (run_requests options facts t) moment t u
