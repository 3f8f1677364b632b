-- What the program writes for its arguments and an input, and how it ends (systemd-tmpfiles(8)).
use Rattle.std.specs.Prelude.{◌≡◌, ℕ, ◌<◌, ◌≤◌, Bool, true, false, List, [], ◌++◌, length, take, codes, Option, Some, None}
use Rattle.std.specs.Fmt.{decimal}
use Rattle.std.specs.Io.KnownBytes.{Appends}
use Rattle.pv_text.specs.Facts.{Values}
use Rattle.pv_steps.specs.Trees.{Files}
use Rattle.pv_words.specs.declared.options.Options.{Options}
use Rattle.pv_image.specs.declared.image_fault.ImageFault.{ImageFault}
use Rattle.pv_image.specs.declared.image_fault.ImageFault.TheVariants as fault
use Rattle.pv_image.specs.Images.{IsImage, HasImageFault}
use Rattle.pv_image.specs.Spelling.{text_of}
use Rattle.provision_run.specs.declared.outcome.Outcome.{Outcome}
use Rattle.provision_run.specs.declared.outcome.Outcome.TheVariants.{Done, ConfigInvalid, NotCarriedOut, Usage, BadImage, NoFreeId, Memory, ReadFault, WriteFault, Stopped, BadFolder, FolderFailed}
use Rattle.provision_run.specs.OverTree.{HasRun}
use Rattle.provision_run.specs.Words.{moment_of}
use Rattle.pv_words.specs.Invocation.{parse_args}
use Rattle.pv_words.specs.declared.invocation.Invocation.{Invocation}
use Rattle.pv_words.specs.declared.invocation.Invocation.TheVariants.{Run, Generate}
use Rattle.provision_run.specs.Generated.{IsGenerated}
use Rattle.provision_run.specs.Messages.{message, messages_text}

-- The exit status of each outcome.
abbrev pub status_of : Outcome → ℕ
status_of Done = 0
status_of ConfigInvalid = 65
status_of NotCarriedOut = 73
status_of Usage = 1
status_of (BadImage fault) = 66
status_of (NoFreeId name) = 1
status_of Memory = 71
status_of ReadFault = 74
status_of WriteFault = 76
status_of (Stopped steps) = 75
status_of (BadFolder fault) = 66
status_of FolderFailed = 77

-- ---- messages

-- The message about a bad image: the number of the line and the name of its error.
abbrev pub at_line : ℕ → List ℕ → List ℕ
at_line n name = codes "bad image at line " ++ decimal n ++ codes ": " ++ name

-- The message about an input that is not an image.
abbrev pub bad_image_text : ImageFault → List ℕ
bad_image_text fault.TooLong = codes "bad image: TooLong"
bad_image_text (fault.BadHeader n) = at_line n (codes "BadHeader")
bad_image_text (fault.BadLine n) = at_line n (codes "BadLine")
bad_image_text (fault.OutOfOrder n) = at_line n (codes "OutOfOrder")
bad_image_text (fault.NoParent n) = at_line n (codes "NoParent")
bad_image_text (fault.Truncated n) = at_line n (codes "Truncated")
bad_image_text fault.Memory = []

-- ---- outputs

-- The most bytes that an input may have: 64 MiB.
abbrev pub most_bytes : ℕ
most_bytes = 67108864

-- Why an input is not accepted. It is TooLong if it has more than 64 MiB. Otherwise it is not an image, and has this
-- error.
abbrev pub IsRefused : List ℕ → ImageFault → Type 0
IsRefused input fault.TooLong = most_bytes < length input
IsRefused input fault.Memory = ⊥
IsRefused input f = (length input ≤ most_bytes) × HasImageFault input f

-- The complete output of a run over a tree, with the outcome. It is all messages, and then the image of the tree that
-- the run has left, with the facts of the input. This output is an image again.
pub record IsAnswered (options : Options) (facts : Values) (moment : ℕ) (t : Files) (found : Outcome) (out : List ℕ) : Type 0 where
  pub messages : List (List ℕ)
  pub left : Files
  pub run : HasRun options facts moment t found messages left
  pub text : out ≡ messages_text messages ++ text_of facts left
  pub again : IsImage out facts left

-- The input is the image of a tree of at most 64 MiB, and this is the output of a run over this tree.
pub record IsRun (options : Options) (clock_micros : ℕ) (input : List ℕ) (found : Outcome) (out : List ℕ) : Type 0 where
  pub facts : Values
  pub tree : Files
  pub image : IsImage input facts tree
  pub fits : length input ≤ most_bytes
  pub answered : IsAnswered options facts (moment_of options clock_micros) tree found out

-- An outcome that has an output of its own. Memory, ReadFault and WriteFault do not, and a run over an image does not
-- end as a run in a folder can.
abbrev pub IsOwn : Outcome → Type 0
IsOwn Memory = ⊥
IsOwn ReadFault = ⊥
IsOwn WriteFault = ⊥
IsOwn (BadFolder fault) = ⊥
IsOwn FolderFailed = ⊥
IsOwn found = Unit {0}

-- The complete output of a run with these options over an input, with this outcome. For an input that is not an image
-- it is one message.
abbrev pub IsAnswer : Options → ℕ → List ℕ → Outcome → List ℕ → Type 0
IsAnswer options clock_micros input (BadImage f) out = IsRefused input f × (out ≡ message (bad_image_text f))
IsAnswer options clock_micros input Usage out = ⊥
IsAnswer options clock_micros input found out = IsRun options clock_micros input found out

-- The complete output by what the arguments ask for:
-- - If they have no meaning, it is the message `usage`.
-- - If they ask for a run of a tool, it is the output of this run over the input.
-- - If they ask for a run over a generated tree, it is the three messages of this run.
abbrev pub HasOutputBy : Option Invocation → ℕ → List ℕ → Outcome → List ℕ → Type 0
HasOutputBy None clock_micros input found out = (found ≡ Usage) × (out ≡ message (codes "usage"))
HasOutputBy (Some (Run options)) clock_micros input found out = IsAnswer options clock_micros input found out
HasOutputBy (Some (Generate seed count)) clock_micros input found out = (found ≡ Done) × IsGenerated seed count out

-- The complete output for these arguments, this time of the clock, this input and this outcome.
abbrev pub HasOutput : List (List ℕ) → ℕ → List ℕ → Outcome → List ℕ → Type 0
HasOutput words clock_micros input found out = IsOwn found × HasOutputBy (parse_args words) clock_micros input found out

-- Whether the input is read. Only the run of a tool reads it.
abbrev pub reads_input : Option Invocation → Bool
reads_input None = false
reads_input (Some (Run options)) = true
reads_input (Some (Generate seed count)) = false

-- The output, if the arguments ask for a run over a generated tree. Then the input does not matter. Of other
-- arguments nothing is said.
abbrev pub IsGeneratedBy : Option Invocation → Outcome → List ℕ → Type 0
IsGeneratedBy (Some (Generate seed count)) found out = (found ≡ Done) × IsGenerated seed count out
IsGeneratedBy asked found out = Unit {0}

-- What a call has written:
-- - After a failed write, a prefix of the complete output with some outcome.
-- - If the input failed or memory ran out, nothing.
-- - Otherwise, the complete output with this outcome.
abbrev pub HasWritten : List (List ℕ) → ℕ → List ℕ → Outcome → Option (List ℕ) → Option (List ℕ) → Type 0
HasWritten words clock_micros input WriteFault old new = (found : Outcome) × (out : List ℕ) × HasOutput words clock_micros input found out × ((k : ℕ) × Appends old new (take k out))
HasWritten words clock_micros input ReadFault old new = Appends old new []
HasWritten words clock_micros input Memory old new = Appends old new []
HasWritten words clock_micros input found old new = (out : List ℕ) × HasOutput words clock_micros input found out × Appends old new out

-- What a call has written whose arguments ask for a run over a generated tree. If it is done, the three messages.
-- After a failed write, a prefix of them. If memory ran out, nothing. It has no other outcome.
unfoldable pub HasWrittenGenerated : ℕ → ℕ → Outcome → Option (List ℕ) → Option (List ℕ) → Type 0
HasWrittenGenerated seed count Done old new = (out : List ℕ) × IsGenerated seed count out × Appends old new out
HasWrittenGenerated seed count WriteFault old new = (out : List ℕ) × IsGenerated seed count out × ((k : ℕ) × Appends old new (take k out))
HasWrittenGenerated seed count Memory old new = Appends old new []
HasWrittenGenerated seed count found old new = ⊥
