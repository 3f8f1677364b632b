-- Crash safety if the complete run reads its lines again, from the tree that the stopped run has left (tmpfiles.d(5),
-- sysusers.d(5)).
use Rattle.std.specs.Prelude.{◌≡◌, ℕ, false, List, [], ◌∷◌, take, ⊤}
use Rattle.std.specs.List.{AllByRecursion}
use Rattle.pv_sysusers.specs.Accounted.{accounted}
use Rattle.pv_sysusers.specs.Recovery.{EndAlike}
use Rattle.pv_read_config.specs.Inputs.{is_request_input}
use Rattle.pv_read_config.specs.Known.{configured}
use Rattle.pv_read_config.specs.Requested.{requested}
use Rattle.pv_layers.specs.Places.{is_input}
use Rattle.pv_layers.specs.Inputs.{IsPlain}
use Rattle.pv_laws.specs.Stopping.{CopiesNothing}
use Rattle.pv_lines.specs.declared.line.Line.{Line}
use Rattle.provision_run.specs.Phases.{phases_of}
use Rattle.provision_run.specs.declared.phase.Phase.{Phase}
use Rattle.provision_run.specs.declared.phase.Phase.TheVariants.{Remove, Create, Purge}
use Rattle.pv_steps.specs.declared.step.Step.{Step}
use Rattle.pv_steps.specs.Runs.{after_all}
use Rattle.pv_steps.specs.Same.{Same}
use Rattle.pv_steps.specs.Trees.{Files}
use Rattle.pv_table.specs.declared.reason.Reason.TheVariants as reason
use Rattle.pv_table.specs.Created.{RefusesNoLine}
use Rattle.pv_table.specs.Removed.{is_unfinished, removed}
use Rattle.pv_table.specs.Repeatable.{HasReason, IsRepeatable}
use Rattle.pv_text.specs.Facts.{Values}
use Rattle.pv_words.specs.declared.options.Options.{Options}
use Rattle.provision_run.specs.Accounts.{run_requests}
use Rattle.provision_run.specs.Phased.{phased, run_lines}

-- ---- systemd-tmpfiles

-- Each FILE argument that spells a path spells an input path. An argument that does not begin with a slash spells
-- none.
abbrev pub ArePlain : Options → Type 0
ArePlain options = AllByRecursion (IsPlain is_input) options.words

-- No line has the hazard `input`.
abbrev pub LeaveInput : List Line → Type 0
LeaveInput lines = (i : ℕ) → HasReason lines i reason.Input → ⊥

-- After any number of steps of a run, the same configuration is read from the tree. This includes the lines, the
-- messages, whether a line is invalid, and whether a FILE argument is not found. It holds if FILE arguments are
-- plain, and no line has the hazard `input`.
abbrev pub IsReread : Options → Values → ℕ → Files → List Step → Type 0
IsReread options facts moment t steps = (n : ℕ) → ArePlain options → LeaveInput (run_lines options facts t) →
    configured (after_all t (take n steps) moment) facts options.words ≡ configured t facts options.words

-- What the lines must be like, by the phases:
-- - Removing or purging: no line has the hazard `input`.
-- - Creating: no line has a hazard.
-- - The boot command: no line has a hazard, and none copies.
-- - Cleaning, and other combinations: nothing is promised.
abbrev pub MayRepeat : List Phase → List Line → Type 0
MayRepeat (Remove ∷ []) lines = LeaveInput lines
MayRepeat (Purge ∷ []) lines = LeaveInput lines
MayRepeat (Create ∷ []) lines = IsRepeatable lines
MayRepeat (Remove ∷ Create ∷ []) lines = IsRepeatable lines × AllByRecursion CopiesNothing lines
MayRepeat phases lines = ⊥

-- A complete run from a tree refuses no line in creating. In the boot command creating begins with what removing
-- leaves.
abbrev pub RefusesNoLineBy : List Phase → List Line → ℕ → Files → Type 0
RefusesNoLineBy (Create ∷ []) lines now t = RefusesNoLine lines now t
RefusesNoLineBy (Remove ∷ Create ∷ []) lines now t = RefusesNoLine lines now (removed lines now t)
RefusesNoLineBy phases lines now t = ⊤

-- In the boot command, a complete removal from a tree leaves nothing unfinished.
abbrev pub IsFinishedBy : List Phase → List Line → Files → Type 0
IsFinishedBy (Remove ∷ Create ∷ []) lines t = is_unfinished lines t ≡ false
IsFinishedBy phases lines t = ⊤

-- The premises of crash safety: what the lines must be like, and what must hold of the tree at the start and of the
-- tree at the stop.
abbrev pub MayRecover : List Phase → List Line → ℕ → Files → ℕ → Files → Type 0
MayRecover phases lines moment t later u =
    MayRepeat phases lines × (IsFinishedBy phases lines t × (RefusesNoLineBy phases lines moment t × RefusesNoLineBy phases lines later u))

-- A run of phases is stopped after any number n of its steps. Then a complete run over the tree at the stop, which
-- reads its lines again, leaves the same tree as one complete run from the start. This holds if FILE arguments are
-- plain and `MayRecover` holds. The runs may begin at different times. `Same` leaves out timestamps and staging
-- names.
abbrev pub RecoversAnew : Options → Values → ℕ → Files → List Step → Type 0
RecoversAnew options facts moment t steps = (n later : ℕ) → ArePlain options →
    MayRecover (phases_of options) (run_lines options facts t) moment t later (after_all t (take n steps) moment) →
    Same (phased options facts later (after_all t (take n steps) moment)) (phased options facts moment t)

-- ---- systemd-sysusers

-- Each FILE argument that spells a path spells one in the folders of systemd-sysusers. An argument that does not
-- begin with a slash spells none.
abbrev pub ArePlainRequests : Options → Type 0
ArePlainRequests options = AllByRecursion (IsPlain is_request_input) options.words

-- After any number of steps of systemd-sysusers, the configuration that is read from the tree is the same. This holds
-- if FILE arguments are plain.
abbrev pub AreRequestsReread : Options → Values → ℕ → Files → List Step → Type 0
AreRequestsReread options facts moment t steps = (n : ℕ) → ArePlainRequests options →
    requested (after_all t (take n steps) moment) facts options.words ≡ requested t facts options.words

-- A run of systemd-sysusers is stopped after any number n of its steps. Then a complete run over the tree at the
-- stop, which reads its lines again, ends like one complete run from the start, as `EndAlike` says. This holds if
-- FILE arguments are plain. The runs may begin at different times.
abbrev pub AccountsRecoverAnew : Options → Values → ℕ → Files → List Step → Type 0
AccountsRecoverAnew options facts moment t steps = (n later : ℕ) → ArePlainRequests options →
    EndAlike moment later
    (accounted (run_requests options facts t) moment t)
    (accounted (run_requests options facts (after_all t (take n steps) moment)) later (after_all t (take n steps) moment))
