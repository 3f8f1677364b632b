-- What the options of a run ask for (systemd-tmpfiles(8), systemd-sysusers(8)).
use Rattle.std.specs.Prelude.{Bool, true, false, is_some}
use Rattle.pv_text.specs.declared.tool.Tool.{Tool}
use Rattle.pv_text.specs.declared.tool.Tool.TheVariants.{Tmpfiles, Sysusers}
use Rattle.pv_words.specs.declared.options.Options.{Options}
use Rattle.provision_run.specs.declared.task.Task.{Task}
use Rattle.provision_run.specs.declared.task.Task.TheVariants.{Phases, Report, Explain, Accounts}

-- For systemd-sysusers: accounts. For systemd-tmpfiles: a report or an explanation if the options ask for it,
-- otherwise phases.
abbrev pub task_by : Tool → Bool → Bool → Task
task_by Tmpfiles true explain = Report
task_by Tmpfiles false true = Explain
task_by Tmpfiles false false = Phases
task_by Sysusers report explain = Accounts

-- The task that options ask for.
abbrev pub task_of : Options → Task
task_of options = task_by options.tool options.report (is_some options.explain)
