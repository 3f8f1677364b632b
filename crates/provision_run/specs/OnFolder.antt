-- A run on a folder of a host: its messages, how it ends, and what the host then holds (systemd-tmpfiles(8),
-- systemd-sysusers(8), `--root`). The messages and the form of the folder are this project's own.
use Rattle.std.specs.Prelude.{◌≡◌, ◌≢◌, ℕ, ◌≤◌, Bool, true, false, List, [], ◌∷◌, ◌++◌, codes, take, Option, Some, None, Result, Ok, Err, IfSome}
use Rattle.std.specs.Io.KnownBytes.{Appends}
use Rattle.pv_io.specs.Faults.{HasRisen, fault_after}
use Rattle.pv_path.specs.Paths.{Path, is_prefix}
use Rattle.pv_steps.specs.declared.tree.TreeFault.{TreeFault}
use Rattle.pv_steps.specs.declared.tree.TreeFault.TheVariants as step
use Rattle.pv_steps.specs.declared.step.Step.{Step}
use Rattle.pv_steps.specs.Runs.{after_all}
use Rattle.pv_steps.specs.Steps.{Can, StepFits}
use Rattle.pv_steps.specs.Trees.{Files, IsTree, places}
use Rattle.pv_text.specs.Facts.{Values}
use Rattle.pv_words.specs.declared.options.Options.{Options}
use Rattle.pv_folder.specs.Content.{Change, Content, File, Held, held}
use Rattle.pv_folder.specs.declared.host.HostFault.{HostFault}
use Rattle.pv_folder.specs.declared.host.HostFault.TheVariants as host
use Rattle.pv_folder.specs.declared.open_fault.OpenFault.{OpenFault}
use Rattle.pv_folder.specs.declared.open_fault.OpenFault.TheVariants as fault
use Rattle.pv_folder.specs.Folders.{Agrees, manifest_path, new_manifest_path, tree_path}
use Rattle.pv_folder.specs.Keeping.{IsAtMostAhead}
use Rattle.pv_folder.specs.Made.{HasMade, all_changed}
use Rattle.pv_folder.specs.Manifest.{IsManifest, manifest_of}
use Rattle.pv_folder.specs.Moments.{IsBetween, changes_of, closing}
use Rattle.pv_folder.specs.Opening.{IsOpened, IsRefused, is_outer}
use Rattle.provision_run.specs.declared.outcome.Outcome.{Outcome}
use Rattle.provision_run.specs.declared.outcome.Outcome.TheVariants.{Memory, ReadFault, WriteFault, BadFolder, FolderFailed}
use Rattle.provision_run.specs.Messages.{messages_text}
use Rattle.provision_run.specs.OverTree.{HasFailed, HasLeft, HasRun, gone_before, gone_of}
use Rattle.provision_run.specs.Words.{moment_of}

-- ---- what the host then holds

-- What a host tells: its content and the changes that it has made, if it tells them, and how often it has failed. A
-- host in memory tells both. The machine does not.
pub record HostState : Type 0 where
  pub content : Option Content
  pub changes : Option (List Change)
  pub faults : ℕ

-- Something holds of the old and the new content, if the host tells its content. A host that tells its content keeps
-- telling it, and one that does not tell it never does.
abbrev pub IfKnown : (Held → Held → Type 0) → Option Content → Option Content → Type 0
IfKnown P (Some old) (Some new) = P (held old) (held new)
IfKnown P (Some old) None = ⊥
IfKnown P None new = new ≡ None

-- Outside of `tree`, everything except `manifest` and `manifest.new` is as before.
abbrev pub IsSameBeside : Path → Held → Held → Type 0
IsSameBeside folder old new = (path : Path) → is_prefix (tree_path folder) path ≡ false → path ≢ manifest_path folder → path ≢ new_manifest_path folder
    → new path ≡ old path

-- A folder holds a tree. Below `tree` are exactly its directories and files, with their bytes. `manifest` says
-- everything else about it, and is an image again. Outside of `tree`, everything except the two manifests is as
-- before.
pub record IsKept (folder : Path) (facts : Values) (tree : Files) (old new : Held) : Type 0 where
  pub agrees : Agrees folder tree new
  pub manifest : new (manifest_path folder) ≡ Some (File (manifest_of facts tree))
  pub image : IsManifest facts tree
  pub outside : IsSameBeside folder old new

-- A folder holds the directories and files of a tree, but still has the old manifest, complete. Outside of `tree`,
-- everything except `manifest.new` is as before.
pub record IsUnclosed (folder : Path) (tree : Files) (old new : Held) : Type 0 where
  pub agrees : Agrees folder tree new
  pub manifest : new (manifest_path folder) ≡ old (manifest_path folder)
  pub outside : IsSameBeside folder old new

-- The manifest of a folder is the old one, complete. Or it is the new one, with these facts and this tree, and is an
-- image again.
pub data HasEitherManifest (folder : Path) (facts : Values) (tree : Files) (old new : Held) : Type 0 where
  old_one : new (manifest_path folder) ≡ old (manifest_path folder) → HasEitherManifest folder facts tree old new
  new_one : new (manifest_path folder) ≡ Some (File (manifest_of facts tree)) → IsManifest facts tree → HasEitherManifest folder facts tree old new

-- A folder holds the directories and files of a tree, or is one step ahead of it, with the old or the new manifest.
-- Outside of `tree`, everything except the two manifests is as before.
pub record IsShort (folder : Path) (facts : Values) (tree : Files) (old new : Held) : Type 0 where
  pub near : IsAtMostAhead folder tree new
  pub manifest : HasEitherManifest folder facts tree old new
  pub outside : IsSameBeside folder old new

-- A run began with these facts and this tree. If the host tells its content, the folder was opened with them.
abbrev pub WasOpened : Path → Option Content → Values → Files → Type 0
WasOpened folder old facts tree = IsTree tree × IfSome old (λ c. IsOpened folder c facts tree)

-- ---- what the host was asked for

-- The host has made the changes of these steps, one after the other, and then the first k of the two changes that
-- close the folder. It has made no others.
abbrev pub HasAskedFor : Path → Values → ℕ → Files → List Step → Files → ℕ → HostState → HostState → Type 0
HasAskedFor folder facts moment tree steps left k old new =
    HasMade (changes_of (tree_path folder) tree steps moment ++ take k (closing folder (manifest_of facts left))) old.content new.content old.changes new.changes

-- The steps that the host was asked for: those that are done. There may be one more step that could be done, if
-- memory ran out in it.
pub data AreAsked (tree : Files) (moment : ℕ) (done asked : List Step) : Type 0 where
  all_done : asked ≡ done → AreAsked tree moment done asked
  one_step_more : (step : Step) → Can (places (after_all tree done moment)) step → StepFits step → asked ≡ done ++ step ∷ [] → AreAsked tree moment done asked

-- ---- how a run ends

-- A run on a folder, complete or stopped at its limit. Over the tree with which the folder was opened, it has ended
-- with this outcome and given these messages. The folder keeps the tree that it has left.
pub record IsRunOn (folder : Path) (options : Options) (clock_micros : ℕ) (old new : Option Content) (found : Outcome) (messages : List (List ℕ)) : Type 0 where
  pub facts : Values
  pub tree : Files
  pub opened : WasOpened folder old facts tree
  pub left : Files
  pub run : HasRun options facts (moment_of options clock_micros) tree found messages left
  pub kept : IfKnown (IsKept folder facts left) old new

-- Such a run, with the changes that it asked of the host: those of its steps, and the two that close the folder.
pub record HasRunOn (folder : Path) (options : Options) (clock_micros : ℕ) (old new : HostState) (found : Outcome) (messages : List (List ℕ)) : Type 0 where
  pub run : IsRunOn folder options clock_micros old.content new.content found messages
  pub asked : HasAskedFor folder run.facts (moment_of options clock_micros) run.tree
      (gone_of options run.facts (moment_of options clock_micros) run.tree found messages run.left run.run).steps run.left 2 old new

-- A run of which a step failed on the host. Before that it gave these messages. The folder keeps the tree that it has
-- left.
pub record IsCutOn (folder : Path) (options : Options) (clock_micros : ℕ) (old new : Option Content) (messages : List (List ℕ)) : Type 0 where
  pub facts : Values
  pub tree : Files
  pub opened : WasOpened folder old facts tree
  pub left : Files
  pub run : HasFailed options facts (moment_of options clock_micros) tree messages left
  pub kept : IfKnown (IsKept folder facts left) old new

-- A run on a folder of a host that failed:
-- - in_opening: The folder could not be opened. There is no message, and nothing has changed.
-- - in_step: A step failed, and the folder keeps the tree that the run has left.
-- - in_step_and_keeping: A step failed, and then the new manifest could not be put in place. The host has failed at
--   least twice.
-- - in_keeping: No step failed, and all messages are given. Then the new manifest could not be put in place.
-- The host has made the changes of the steps of the run. If the new manifest is not in place, it has made at most the
-- first of the two that close the folder.
pub data IsFailedOn (folder : Path) (options : Options) (clock_micros : ℕ) (old new : HostState) (messages : List (List ℕ)) : Type 0 where
  in_opening : messages ≡ [] → new.content ≡ old.content → new.changes ≡ old.changes → IsFailedOn folder options clock_micros old new messages
  in_step : (cut : IsCutOn folder options clock_micros old.content new.content messages)
      → HasAskedFor folder cut.facts (moment_of options clock_micros) cut.tree (gone_before options cut.facts (moment_of options clock_micros) cut.tree messages cut.left cut.run).steps cut.left 2 old new
      → IsFailedOn folder options clock_micros old new messages
  in_step_and_keeping : (facts : Values) (tree left : Files) → WasOpened folder old.content facts tree
      → (run : HasFailed options facts (moment_of options clock_micros) tree messages left)
      → HasRisen (fault_after old.faults) new.faults
      → IfKnown (IsUnclosed folder left) old.content new.content
      → (k : ℕ) → k ≤ 1 → HasAskedFor folder facts (moment_of options clock_micros) tree (gone_before options facts (moment_of options clock_micros) tree messages left run).steps left k old new
      → IsFailedOn folder options clock_micros old new messages
  in_keeping : (facts : Values) (tree left : Files) (found : Outcome) → WasOpened folder old.content facts tree
      → (run : HasRun options facts (moment_of options clock_micros) tree found messages left)
      → IfKnown (IsUnclosed folder left) old.content new.content
      → (k : ℕ) → k ≤ 1 → HasAskedFor folder facts (moment_of options clock_micros) tree (gone_of options facts (moment_of options clock_micros) tree found messages left run).steps left k old new
      → IsFailedOn folder options clock_micros old new messages

-- A run on a folder that ran out of memory:
-- - before_steps: Before the first step. Nothing has changed.
-- - in_run: Later. The folder holds what some steps of the run have left, or is one step ahead, with the old or the
--   new manifest. The host has made the changes of these steps, and none, one or both of those that close the folder.
pub data IsShortOn (folder : Path) (options : Options) (clock_micros : ℕ) (old new : HostState) : Type 0 where
  before_steps : new.content ≡ old.content → new.changes ≡ old.changes → IsShortOn folder options clock_micros old new
  in_run : (facts : Values) (tree left : Files) → WasOpened folder old.content facts tree
      → (gone : HasLeft options facts (moment_of options clock_micros) tree left)
      → IfKnown (IsShort folder facts left) old.content new.content
      → (asked : List Step) → AreAsked tree (moment_of options clock_micros) gone.steps asked
      → (k : ℕ) → HasAskedFor folder facts (moment_of options clock_micros) tree asked left k old new → IsShortOn folder options clock_micros old new

-- The outcome of a run on a folder. It depends on how the run over the tree ended, whether a step may be half done
-- (`pending`), and whether the folder could be closed. It is FolderFailed if a step or the closing failed, and
-- otherwise that of the run. If memory ran out in any of them, this gives no outcome.
pub data EndsAs (ran : Result Outcome TreeFault) (pending : Bool) (closed : Result (Unit {0}) HostFault) : Outcome → Type 0 where
  as_run : (found : Outcome) → ran ≡ Ok found → pending ≡ false → closed ≡ Ok tt → EndsAs ran pending closed found
  step_failed : ran ≡ Err step.Failed → pending ≡ false → closed ≡ Ok tt → EndsAs ran pending closed FolderFailed
  step_and_keeping_failed : ran ≡ Err step.Failed → pending ≡ false → closed ≡ Err host.Failed → EndsAs ran pending closed FolderFailed
  keeping_failed : (found : Outcome) → ran ≡ Ok found → pending ≡ false → closed ≡ Err host.Failed → EndsAs ran pending closed FolderFailed

-- The message about a folder that cannot be opened: the name of the error.
abbrev pub bad_folder_text : OpenFault → List ℕ
bad_folder_text fault.NotPrepared = codes "bad folder: NotPrepared"
bad_folder_text (fault.BadManifest f) = codes "bad folder: BadManifest"
bad_folder_text (fault.OddObject path) = codes "bad folder: OddObject"
bad_folder_text fault.TooLarge = codes "bad folder: TooLarge"
bad_folder_text fault.HostFailed = []
bad_folder_text fault.Memory = []

-- A folder that cannot be opened, because it has this error (if the host tells its content). The folder is as before,
-- and the host was asked for no change.
pub record IsRefusedOn (folder : Path) (old new : HostState) (f : OpenFault) (messages : List (List ℕ)) : Type 0 where
  pub of_folder : is_outer f ≡ false
  pub refused : IfSome old.content (λ c. IsRefused folder c f)
  pub message : messages ≡ bad_folder_text f ∷ []
  pub kept : new.content ≡ old.content
  pub unasked : new.changes ≡ old.changes

-- ---- by the outcome

-- The messages that belong to an outcome. For BadFolder, the folder could not be opened. For FolderFailed, the host
-- failed, and its count of faults has risen. Otherwise a run has ended.
abbrev pub IsAnswerOn : Path → Options → ℕ → HostState → HostState → Outcome → List (List ℕ) → Type 0
IsAnswerOn folder options clock_micros old new (BadFolder f) messages = IsRefusedOn folder old new f messages
IsAnswerOn folder options clock_micros old new FolderFailed messages = HasRisen old.faults new.faults × IsFailedOn folder options clock_micros old new messages
IsAnswerOn folder options clock_micros old new found messages = HasRunOn folder options clock_micros old new found messages

-- The complete output of a run on a folder: only the messages.
abbrev pub HasOutputOn : Path → Options → ℕ → HostState → HostState → Outcome → List ℕ → Type 0
HasOutputOn folder options clock_micros old new found out =
    (messages : List (List ℕ)) × (IsAnswerOn folder options clock_micros old new found messages × (out ≡ messages_text messages))

-- What a call has written. If memory ran out, nothing. After a failed write, a prefix of the complete output with
-- some outcome. Otherwise the complete output with this outcome. It is never ReadFault, since no input is read.
unfoldable pub HasWrittenOn : Path → Options → ℕ → HostState → HostState → Outcome → Option (List ℕ) → Option (List ℕ) → Type 0
HasWrittenOn folder options clock_micros old new Memory before after = IsShortOn folder options clock_micros old new × Appends before after []
HasWrittenOn folder options clock_micros old new ReadFault before after = ⊥
HasWrittenOn folder options clock_micros old new WriteFault before after =
    (found : Outcome) × (out : List ℕ) × HasOutputOn folder options clock_micros old new found out × ((k : ℕ) × Appends before after (take k out))
HasWrittenOn folder options clock_micros old new found before after =
    (out : List ℕ) × HasOutputOn folder options clock_micros old new found out × Appends before after out

-- The outcomes that only a run on a folder has.
abbrev pub is_of_folder : Outcome → Bool
is_of_folder (BadFolder f) = true
is_of_folder FolderFailed = true
is_of_folder found = false

-- ---- between two changes

-- A run on a folder asked the host for no change. Or it asked for some changes. Before the first of them, between any
-- two, and after the last, the folder holds the directories and files of an intermediate state of the run. The
-- manifest is the old one or, once all steps are done, the new one.
pub data HoldsAlways (folder : Path) (options : Options) (clock_micros : ℕ) (content : Content) (old new : HostState) : Type 0 where
  unasked : new.content ≡ old.content → new.changes ≡ old.changes → HoldsAlways folder options clock_micros content old new
  between : (facts : Values) (tree left : Files) → IsOpened folder content facts tree
      → (gone : HasLeft options facts (moment_of options clock_micros) tree left)
      → (asked : List Step) → AreAsked tree (moment_of options clock_micros) gone.steps asked
      → (made : List Change) → HasMade made old.content new.content old.changes new.changes
      → ((n : ℕ) → IsBetween folder tree asked (moment_of options clock_micros) (manifest_of facts left) (held content) (all_changed (take n made) (held content)))
      → HoldsAlways folder options clock_micros content old new
