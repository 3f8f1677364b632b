-- A run over a tree, whether it comes from an image or a folder: how it ended, its messages, and the tree that it has
-- left (systemd-tmpfiles(8), systemd-sysusers(8)).
use Rattle.std.specs.Prelude.{◌≡◌, ℕ, ◌<◌, ◌≤◌, List, [], ◌∷◌, ◌++◌, length, take, codes, Some, IfSome}
use Rattle.std.specs.Fmt.{decimal}
use Rattle.std.specs.List.{AllByRecursion}
use Rattle.pv_text.specs.Facts.{Values}
use Rattle.pv_steps.specs.declared.step.Step.{Step}
use Rattle.pv_steps.specs.Trees.{Files}
use Rattle.pv_steps.specs.Runs.{Along, after_all}
use Rattle.pv_words.specs.declared.options.Options.{Options}
use Rattle.provision_run.specs.declared.outcome.Outcome.{Outcome}
use Rattle.provision_run.specs.declared.outcome.Outcome.TheVariants.{Done, ConfigInvalid, NotCarriedOut, Usage, BadImage, NoFreeId, Memory, ReadFault, WriteFault, Stopped, BadFolder, FolderFailed}
use Rattle.provision_run.specs.declared.ending.RunEnd.{RunEnd}
use Rattle.provision_run.specs.declared.ending.RunEnd.TheVariants as end
use Rattle.provision_run.specs.Framed.{IsFramedIn}
use Rattle.provision_run.specs.OnTheWay.{IsOnTheWayIn}
use Rattle.provision_run.specs.Swept.{IsSweptIn}
use Rattle.provision_run.specs.Tasks.{task_of}
use Rattle.provision_run.specs.Whole.{run_way, final, RecoversAnewIn, RecoversIn, is_run_step, AreMessages, IsCutBy, read_messages, run_end, run_work}

-- ---- any run

-- A run has left a tree, whatever it answered. What holds of its steps:
-- - way, asked, reached: The steps lead to this tree. Each one can be done, has an effect, and is one that the lines
--   ask for. The trees between them are intermediate states of the run.
-- - recovers: For one phase, the boot command or systemd-sysusers, a complete run after a stop recovers.
-- - anew: The same if the complete run reads its lines from the tree at the stop.
-- - framed: What the run has no reason to change is as it was (`IsFramedIn`).
-- - between: For creating and the boot command, what is at each path, and what each step gives, is as the lines leave
--   it (`IsOnTheWayIn`).
pub record HasLeft (options : Options) (facts : Values) (moment : ℕ) (t left : Files) : Type 0 where
  pub steps : List Step
  pub way : Along (run_way options facts moment t) t steps moment
  pub asked : AllByRecursion (is_run_step options facts moment t) steps
  pub reached : left ≡ after_all t steps moment
  pub recovers : RecoversIn (task_of options) options facts moment t steps
  pub anew : RecoversAnewIn (task_of options) options facts moment t steps
  pub framed : IsFramedIn (task_of options) options facts moment t steps
  pub between : IsOnTheWayIn (task_of options) options facts moment t steps

-- ---- complete runs

-- The outcome of a complete run, by how it ended.
abbrev pub outcome_of : RunEnd → Outcome
outcome_of end.Done = Done
outcome_of end.ConfigInvalid = ConfigInvalid
outcome_of end.NotCarriedOut = NotCarriedOut
outcome_of (end.NoFreeId name) = NoFreeId name

-- The outcome of a complete run over a tree.
abbrev pub outcome : Options → Values → ℕ → Files → Outcome
outcome options facts moment t = outcome_of (run_end options facts moment t)

-- A complete run. It has the outcome, the messages and the tree that the definitions give. Its steps are done in
-- order, no more than the limit if there is one. At the staging names of what it made nothing is left.
pub record IsWhole (options : Options) (facts : Values) (moment : ℕ) (t : Files) (found : Outcome) (messages : List (List ℕ)) (left : Files) : Type 0 where
  pub end : found ≡ outcome options facts moment t
  pub new_messages : List (List ℕ)
  pub is_said : AreMessages options facts moment t new_messages
  pub messages_are : messages ≡ read_messages options facts t ++ new_messages
  pub final_is : left ≡ final options facts moment t
  pub gone : HasLeft options facts moment t left
  pub in_turn : IsCutBy (task_of options) options facts moment 0 t gone.steps new_messages
  pub within : IfSome options.stop_after (λ n. length gone.steps ≤ n)
  pub staged : IsSweptIn (task_of options) options facts moment t left

-- ---- runs of which a step was refused

-- A prefix of the messages that a complete run gives after reading.
abbrev pub IsPrefixOfMessages : Options → Values → ℕ → Files → List (List ℕ) → Type 0
IsPrefixOfMessages options facts moment t new_messages = (whole : List (List ℕ)) × (AreMessages options facts moment t whole × ((k : ℕ) × (new_messages ≡ take k whole)))

-- A run of which a step was refused: at its limit, or because the step failed. It has done fewer steps than the most
-- that a run may take. Its messages after reading are a prefix of those of a complete run. The tree is that after the
-- steps that were done. The phases and lines before the one at work have done and said all, and those after it
-- nothing. With the refused step, the one at work takes no more steps than a complete run of it may take.
pub record IsCut (options : Options) (facts : Values) (moment : ℕ) (t : Files) (new_messages : List (List ℕ)) (left : Files) : Type 0 where
  pub gone : HasLeft options facts moment t left
  pub fewer : length gone.steps < run_work options facts moment t
  pub prefix : IsPrefixOfMessages options facts moment t new_messages
  pub at_work : IsCutBy (task_of options) options facts moment 1 t gone.steps new_messages

-- The message about a run that was stopped after n steps.
abbrev pub stopped_text : ℕ → List ℕ
stopped_text n = codes "stopped after " ++ decimal n ++ codes " steps"

-- A run that was stopped at its limit, after n steps. Its messages are those about reading, a prefix of the others,
-- and that it was stopped.
pub record IsStopped (options : Options) (facts : Values) (moment : ℕ) (t : Files) (n : ℕ) (messages : List (List ℕ)) (left : Files) : Type 0 where
  pub limit : options.stop_after ≡ Some n
  pub new_messages : List (List ℕ)
  pub cut : IsCut options facts moment t new_messages left
  pub count : length cut.gone.steps ≡ n
  pub messages_are : messages ≡ read_messages options facts t ++ new_messages ++ stopped_text n ∷ []

-- ---- by the outcome

-- How a run ended, all its messages, and the tree that it has left. It was stopped at its limit, or it was complete.
abbrev pub HasRun : Options → Values → ℕ → Files → Outcome → List (List ℕ) → Files → Type 0
HasRun options facts moment t (Stopped n) messages left = IsStopped options facts moment t n messages left
HasRun options facts moment t found messages left = IsWhole options facts moment t found messages left

-- The messages of a run of which a step failed, and the tree that it has left.
abbrev pub HasFailed : Options → Values → ℕ → Files → List (List ℕ) → Files → Type 0
HasFailed options facts moment t messages left =
    (new_messages : List (List ℕ)) × ((messages ≡ read_messages options facts t ++ new_messages) × IsCut options facts moment t new_messages left)

-- ---- the steps that were done

-- The steps of a run that ended with this outcome.
abbrev pub gone_of : (options : Options) (facts : Values) (moment : ℕ) (t : Files) (found : Outcome) (messages : List (List ℕ)) (left : Files)
    → HasRun options facts moment t found messages left → HasLeft options facts moment t left
gone_of options facts moment t Done messages left run = run.gone
gone_of options facts moment t ConfigInvalid messages left run = run.gone
gone_of options facts moment t NotCarriedOut messages left run = run.gone
gone_of options facts moment t Usage messages left run = run.gone
gone_of options facts moment t (BadImage f) messages left run = run.gone
gone_of options facts moment t (NoFreeId name) messages left run = run.gone
gone_of options facts moment t Memory messages left run = run.gone
gone_of options facts moment t ReadFault messages left run = run.gone
gone_of options facts moment t WriteFault messages left run = run.gone
gone_of options facts moment t (Stopped n) messages left run = run.cut.gone
gone_of options facts moment t (BadFolder f) messages left run = run.gone
gone_of options facts moment t FolderFailed messages left run = run.gone

-- The steps of a run of which a step failed.
abbrev pub gone_before : (options : Options) (facts : Values) (moment : ℕ) (t : Files) (messages : List (List ℕ)) (left : Files)
    → HasFailed options facts moment t messages left → HasLeft options facts moment t left
gone_before options facts moment t messages left failed = failed.1.1.gone

-- A run that ended with this outcome and did exactly these steps.
pub record HasRunBy (options : Options) (facts : Values) (moment : ℕ) (t : Files) (found : Outcome) (messages : List (List ℕ)) (left : Files) (steps : List Step) : Type 0 where
  pub run : HasRun options facts moment t found messages left
  pub by : (gone_of options facts moment t found messages left run).steps ≡ steps

-- A run of which a step failed, and which did exactly these steps.
pub record HasFailedBy (options : Options) (facts : Values) (moment : ℕ) (t : Files) (messages : List (List ℕ)) (left : Files) (steps : List Step) : Type 0 where
  pub run : HasFailed options facts moment t messages left
  pub by : (gone_before options facts moment t messages left run).steps ≡ steps

-- Any run that did exactly these steps.
pub record HasLeftBy (options : Options) (facts : Values) (moment : ℕ) (t left : Files) (steps : List Step) : Type 0 where
  pub gone : HasLeft options facts moment t left
  pub by : gone.steps ≡ steps
