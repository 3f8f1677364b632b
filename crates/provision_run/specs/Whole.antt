-- A complete run over a tree, by what its options ask for (systemd-tmpfiles(8), systemd-sysusers(8)). Here are the
-- tree that it leaves, its messages, how it ends, and the most steps that it takes.
use Rattle.std.specs.Prelude.{◌≡◌, ◌⊎◌, ℕ, List, [], ◌++◌, ⊤}
use Rattle.pv_sysusers.specs.Accounted.{accounted}
use Rattle.pv_sysusers.specs.FileWriting.{AccountWay, IsAccountStep}
use Rattle.pv_sysusers.specs.Recovery as accounts
use Rattle.pv_read_config.specs.Known.{configured}
use Rattle.provision_run.specs.Phases.{RecoversBy, phases_of}
use Rattle.pv_steps.specs.declared.step.Step.{Step}
use Rattle.pv_steps.specs.Trees.{Files}
use Rattle.pv_text.specs.Facts.{Values}
use Rattle.pv_text.specs.GivenMessages.{MessagesPart}
use Rattle.pv_words.specs.declared.options.Options.{Options}
use Rattle.provision_run.specs.declared.ending.RunEnd.{RunEnd}
use Rattle.provision_run.specs.declared.task.Task.{Task}
use Rattle.provision_run.specs.declared.task.Task.TheVariants.{Phases, Report, Explain, Accounts}
use Rattle.provision_run.specs.Accounts.{account_messages, accounts_end, accounts_work, requests_messages, run_edits, run_requests}
use Rattle.provision_run.specs.Explained.{IsExplanationOf}
use Rattle.provision_run.specs.Phased.{is_phases_step, lines_messages, phase_messages, phased, phases_cut, phases_end, phases_way, phases_work, run_lines}
use Rattle.provision_run.specs.Reported.{IsReportOf, report_end}
use Rattle.provision_run.specs.Rereading.{AccountsRecoverAnew, AreRequestsReread, RecoversAnew, IsReread}
use Rattle.provision_run.specs.Tasks.{task_of}

-- ---- by the task

-- The tree that a complete run leaves. A report and an explanation leave it as it was.
unfoldable pub final_by : Task → Options → Values → ℕ → Files → Files
final_by Phases options facts moment t = phased options facts moment t
final_by Report options facts moment t = t
final_by Explain options facts moment t = t
final_by Accounts options facts moment t = accounted (run_requests options facts t) moment t

-- The messages about reading the configuration and about duplicate lines.
unfoldable pub read_by : Task → Options → Values → Files → List (List ℕ)
read_by Phases options facts t = lines_messages options facts t
read_by Report options facts t = (configured t facts options.words).messages
read_by Explain options facts t = lines_messages options facts t
read_by Accounts options facts t = requests_messages options facts t

-- The messages that follow.
unfoldable pub AreMessagesBy : Task → Options → Values → ℕ → Files → List (List ℕ) → Type 0
AreMessagesBy Phases options facts moment t new_messages = new_messages ≡ phase_messages options facts moment t
AreMessagesBy Report options facts moment t new_messages = IsReportOf (configured t facts options.words).lines new_messages
AreMessagesBy Explain options facts moment t new_messages = IsExplanationOf options facts t new_messages
AreMessagesBy Accounts options facts moment t new_messages = new_messages ≡ account_messages options facts moment t

-- How a complete run ends.
unfoldable pub end_by : Task → Options → Values → ℕ → Files → RunEnd
end_by Phases options facts moment t = phases_end options facts moment t
end_by Report options facts moment t = report_end options facts t
end_by Explain options facts moment t = report_end options facts t
end_by Accounts options facts moment t = accounts_end options facts moment t

-- An intermediate state. For phases, some are done, and the next one is at work. For systemd-sysusers, the first
-- account files have their new texts. A report and an explanation leave the tree as it was.
unfoldable pub way_by : Task → Options → Values → ℕ → Files → Files → Type 0
way_by Phases options facts moment t u = phases_way options facts moment t u
way_by Report options facts moment t u = u ≡ t
way_by Explain options facts moment t u = u ≡ t
way_by Accounts options facts moment t u = AccountWay (run_edits options facts moment t) t u

-- A step of a run.
unfoldable pub is_step_by : Task → Options → Values → ℕ → Files → Step → Type 0
is_step_by Phases options facts moment t step = is_phases_step options facts moment t step
is_step_by Report options facts moment t step = ⊥
is_step_by Explain options facts moment t step = ⊥
is_step_by Accounts options facts moment t step = IsAccountStep (run_edits options facts moment t) t step

-- The most steps that a run takes.
unfoldable pub work_by : Task → Options → Values → ℕ → Files → ℕ
work_by Phases options facts moment t = phases_work options facts moment t
work_by Report options facts moment t = 0
work_by Explain options facts moment t = 0
work_by Accounts options facts moment t = accounts_work options facts moment t

-- ---- messages

-- The messages of a complete run, after earlier messages.
abbrev pub HasMessagesBy : Task → Options → Values → ℕ → Files → List (List ℕ) → List (List ℕ) → Type 0
HasMessagesBy task options facts moment t old new =
    (new_messages : List (List ℕ)) × (AreMessagesBy task options facts moment t new_messages × (new ≡ old ++ read_by task options facts t ++ new_messages))

-- The messages of any run, after earlier messages: a prefix of those about reading, or of all that a complete run
-- gives.
abbrev pub HasMessagesPartBy : Task → Options → Values → ℕ → Files → List (List ℕ) → List (List ℕ) → Type 0
HasMessagesPartBy task options facts moment t old new =
    MessagesPart (read_by task options facts t) old new
    ⊎ ((new_messages : List (List ℕ)) × (AreMessagesBy task options facts moment t new_messages × MessagesPart (read_by task options facts t ++ new_messages) old new))

-- ---- steps and messages together

-- The steps and messages after reading where a run was cut short. For phases, those before the one at work are done,
-- and those after it have not begun. In creating the same holds of the lines. systemd-sysusers gives all its messages
-- before its first step. A report and an explanation do no step.
unfoldable pub IsCutBy : Task → Options → Values → ℕ → ℕ → Files → List Step → List (List ℕ) → Type 0
IsCutBy Phases options facts moment refused t steps new_messages = phases_cut options facts moment refused t steps new_messages
IsCutBy Report options facts moment refused t steps new_messages = (refused ≡ 0) × (steps ≡ [])
IsCutBy Explain options facts moment refused t steps new_messages = (refused ≡ 0) × (steps ≡ [])
IsCutBy Accounts options facts moment refused t steps new_messages = new_messages ≡ account_messages options facts moment t

-- What a run has said that has read its configuration and done these steps.
abbrev pub HasGoneBy : Task → Options → Values → ℕ → ℕ → Files → List Step → List (List ℕ) → List (List ℕ) → Type 0
HasGoneBy task options facts moment refused t steps old new =
    (new_messages : List (List ℕ)) × ((new ≡ old ++ read_by task options facts t ++ new_messages) × IsCutBy task options facts moment refused t steps new_messages)

-- ---- crash safety

-- Crash safety by the task: of one phase, the boot command, and systemd-sysusers. A report and an explanation do no
-- step.
unfoldable pub RecoversIn : Task → Options → Values → ℕ → Files → List Step → Type 0
RecoversIn Phases options facts moment t steps = RecoversBy (phases_of options) (run_lines options facts t) moment t steps
RecoversIn Report options facts moment t steps = steps ≡ []
RecoversIn Explain options facts moment t steps = steps ≡ []
RecoversIn Accounts options facts moment t steps = accounts.Recovers (run_requests options facts t) moment t steps

-- Crash safety if the complete run reads its lines from the tree at the stop. The same configuration is read there.
unfoldable pub RecoversAnewIn : Task → Options → Values → ℕ → Files → List Step → Type 0
RecoversAnewIn Phases options facts moment t steps = IsReread options facts moment t steps × RecoversAnew options facts moment t steps
RecoversAnewIn Report options facts moment t steps = ⊤
RecoversAnewIn Explain options facts moment t steps = ⊤
RecoversAnewIn Accounts options facts moment t steps = AreRequestsReread options facts moment t steps × AccountsRecoverAnew options facts moment t steps

-- ---- by the options

-- The tree that a complete run leaves.
abbrev pub final : Options → Values → ℕ → Files → Files
final options facts moment t = final_by (task_of options) options facts moment t

-- The messages about reading the configuration and about duplicate lines.
abbrev pub read_messages : Options → Values → Files → List (List ℕ)
read_messages options facts t = read_by (task_of options) options facts t

-- The messages that follow.
abbrev pub AreMessages : Options → Values → ℕ → Files → List (List ℕ) → Type 0
AreMessages options facts moment t new_messages = AreMessagesBy (task_of options) options facts moment t new_messages

-- How a complete run ends.
abbrev pub run_end : Options → Values → ℕ → Files → RunEnd
run_end options facts moment t = end_by (task_of options) options facts moment t

-- An intermediate state of a run.
abbrev pub run_way : Options → Values → ℕ → Files → Files → Type 0
run_way options facts moment t u = way_by (task_of options) options facts moment t u

-- A step of a run.
abbrev pub is_run_step : Options → Values → ℕ → Files → Step → Type 0
is_run_step options facts moment t step = is_step_by (task_of options) options facts moment t step

-- The most steps that a run takes.
abbrev pub run_work : Options → Values → ℕ → Files → ℕ
run_work options facts moment t = work_by (task_of options) options facts moment t
