-- What a run leaves as it was, after any number of its steps and whatever it answers (systemd-tmpfiles(8),
-- systemd-sysusers(8)).
use Rattle.std.specs.Prelude.{◌≡◌, ℕ, false, List, [], take}
use Rattle.pv_sysusers.specs.FileWriting.{account_paths}
use Rattle.pv_layers.specs.Places.{etc}
use Rattle.pv_create.specs.OnTheWay.{IsFramed}
use Rattle.pv_walk.specs.Nodes.{object_states_of}
use Rattle.pv_path.specs.Paths.{Path, has_staging, same_path}
use Rattle.pv_steps.specs.declared.step.Step.{Step}
use Rattle.pv_steps.specs.Runs.{after_all}
use Rattle.pv_steps.specs.Trees.{Files, places}
use Rattle.pv_text.specs.Facts.{Values}
use Rattle.pv_walk.specs.Removal.{is_one_of}
use Rattle.pv_words.specs.declared.options.Options.{Options}
use Rattle.provision_run.specs.declared.task.Task.{Task}
use Rattle.provision_run.specs.declared.task.Task.TheVariants.{Phases, Report, Explain, Accounts}
use Rattle.provision_run.specs.Phased.{run_lines}

-- After any number of steps of systemd-sysusers, each path is as it was, timestamps aside. This does not hold of
-- `/etc`, the account files and staging names.
abbrev pub AreAccountsFramed : ℕ → Files → List Step → Type 0
AreAccountsFramed moment t steps = (n : ℕ) (q : Path) → has_staging q ≡ false → same_path etc q ≡ false → is_one_of account_paths q ≡ false →
    object_states_of (places (after_all t (take n steps) moment)) q ≡ object_states_of (places t) q

-- The same by the task. Phases, whichever they are, leave each path as it was that no active line governs. A report
-- and an explanation do no step.
unfoldable pub IsFramedIn : Task → Options → Values → ℕ → Files → List Step → Type 0
IsFramedIn Phases options facts moment t steps = IsFramed (run_lines options facts t) moment t steps
IsFramedIn Report options facts moment t steps = steps ≡ []
IsFramedIn Explain options facts moment t steps = steps ≡ []
IsFramedIn Accounts options facts moment t steps = AreAccountsFramed moment t steps
