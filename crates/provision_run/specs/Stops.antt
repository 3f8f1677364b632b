-- Runs that were stopped, one or more, each over what the last one left, and then a complete run. It leaves what one
-- complete run leaves (systemd-tmpfiles(8), systemd-sysusers(8)).
use Rattle.std.specs.Prelude.{◌≡◌, ℕ, List, [], ◌∷◌, take, Some, None}
use Rattle.std.specs.List.{AllByRecursion}
use Rattle.pv_sysusers.specs.Accounted.{day_of, text_at}
use Rattle.pv_sysusers.specs.FileWriting.{gshadow_path}
use Rattle.pv_image.specs.Images.{IsImage}
use Rattle.pv_layers.specs.Places.{group_path, passwd_path}
use Rattle.provision_run.specs.Phases.{phases_of}
use Rattle.pv_steps.specs.declared.step.Step.{Step}
use Rattle.pv_steps.specs.Runs.{after_all}
use Rattle.pv_steps.specs.Same.{Same}
use Rattle.pv_steps.specs.Trees.{Files, places}
use Rattle.pv_text.specs.Facts.{Values}
use Rattle.pv_words.specs.declared.options.Options.{Options}
use Rattle.pv_words.specs.Invocation.{parse_args}
use Rattle.pv_words.specs.declared.invocation.Invocation.TheVariants.{Run}
use Rattle.provision_run.specs.declared.ending.RunEnd.{RunEnd}
use Rattle.provision_run.specs.declared.outcome.Outcome.TheVariants.{Stopped}
use Rattle.provision_run.specs.Answers.{HasOutput}
use Rattle.provision_run.specs.OverTree.{outcome_of}
use Rattle.provision_run.specs.Phased.{run_lines}
use Rattle.provision_run.specs.Rereading.{IsFinishedBy, RefusesNoLineBy}
use Rattle.provision_run.specs.Tasks.{task_of}
use Rattle.provision_run.specs.Whole.{RecoversAnewIn}
use Rattle.provision_run.specs.Words.{moment_of}

-- ---- premises

-- A tree is calm for a run with these options. In the boot command a complete removal leaves nothing unfinished.
-- Creating refuses no line at some time, and so at any time.
abbrev pub IsCalm : Options → Values → Files → Type 0
IsCalm options facts t =
    IsFinishedBy (phases_of options) (run_lines options facts t) t
    × ((moment : ℕ) × RefusesNoLineBy (phases_of options) (run_lines options facts t) moment t)

-- ---- over trees

-- A run from a tree was stopped after some of its steps, of which crash safety is known, and has left another tree.
pub record HasStopped (options : Options) (facts : Values) (moment : ℕ) (t u : Files) : Type 0 where
  pub steps : List Step
  pub anew : RecoversAnewIn (task_of options) options facts moment t steps
  pub count : ℕ
  pub left : u ≡ after_all t (take count steps) moment

-- Runs at some times were stopped, each from the tree that the last one left. The tree with which each run began is
-- calm.
abbrev pub HaveStopped : Options → Values → List ℕ → Files → Files → Type 0
HaveStopped options facts [] t u = u ≡ t
HaveStopped options facts (moment ∷ moments) t u =
    IsCalm options facts t × ((v : Files) × (HasStopped options facts moment t v × HaveStopped options facts moments v u))

-- Two trees that runs of systemd-sysusers leave. `/etc/group`, `/etc/gshadow` and `/etc/passwd` have the same texts.
-- If all times are on the day of `first`, the trees are the same, timestamps and staging names aside.
pub record EndAlikeAfter (first : ℕ) (moments : List ℕ) (t u : Files) : Type 0 where
  pub group : text_at (places u) group_path ≡ text_at (places t) group_path
  pub gshadow : text_at (places u) gshadow_path ≡ text_at (places t) gshadow_path
  pub passwd : text_at (places u) passwd_path ≡ text_at (places t) passwd_path
  pub same : AllByRecursion (λ moment. day_of moment ≡ day_of first) moments → Same u t

-- ---- over bytes

-- Options without `--stop-after` and `--now`.
abbrev pub unlimited : Options → Options
unlimited options = record options { stop_after = None; now = None }

-- Arguments that mean these options, and the time of a run with them. Only `--stop-after` and the time may differ.
pub record AreLike (options : Options) (words : List (List ℕ)) (clock_micros moment : ℕ) : Type 0 where
  pub own : Options
  pub meaning : parse_args words ≡ Some (Run own)
  pub alike : unlimited own ≡ unlimited options
  pub when : moment ≡ moment_of own clock_micros

-- A run over an input with such arguments was stopped, and has written an output.
pub record HasStoppedOver (options : Options) (moment : ℕ) (input out : List ℕ) : Type 0 where
  pub words : List (List ℕ)
  pub clock_micros : ℕ
  pub like : AreLike options words clock_micros moment
  pub count : ℕ
  pub output : HasOutput words clock_micros input (Stopped count) out

-- The tree of which the input is an image is calm.
abbrev pub IsCalmOver : Options → List ℕ → Type 0
IsCalmOver options input = (facts : Values) (t : Files) → IsImage input facts t → IsCalm options facts t

-- Runs at some times were stopped, each over the output of the last one. Each input was calm.
abbrev pub HaveStoppedOver : Options → List ℕ → List ℕ → List ℕ → Type 0
HaveStoppedOver options [] input last = last ≡ input
HaveStoppedOver options (moment ∷ moments) input last =
    IsCalmOver options input × ((out : List ℕ) × (HasStoppedOver options moment input out × HaveStoppedOver options moments out last))

-- A run over an input with such arguments was complete, and has written an output.
pub record HasEndedOver (options : Options) (moment : ℕ) (input out : List ℕ) : Type 0 where
  pub words : List (List ℕ)
  pub clock_micros : ℕ
  pub like : AreLike options words clock_micros moment
  pub end : RunEnd
  pub output : HasOutput words clock_micros input (outcome_of end) out

-- Two outputs are images with the same facts, and something holds of their trees.
pub record AreImages (Holds : Files → Files → Type 0) (out again : List ℕ) : Type 0 where
  pub facts : Values
  pub tree : Files
  pub other : Files
  pub one : IsImage out facts tree
  pub two : IsImage again facts other
  pub holds : Holds tree other
