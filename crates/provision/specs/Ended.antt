-- How the program ends: its exit status is that of the outcome of the run that its arguments ask for.
use Rattle.std.specs.Prelude.{◌≡◌, ◌⊎◌, ℕ, true, is_some, List, Option, Some, None, IfSome}
use Rattle.pv_folder.specs.Content.{spelled}
use Rattle.pv_words.specs.Invocation.{parse_args}
use Rattle.pv_words.specs.Rooted.{rooted_of}
use Rattle.pv_words.specs.declared.invocation.Invocation.TheVariants.{Generate}
use Rattle.provision_run.specs.declared.outcome.Outcome.{Outcome}
use Rattle.provision_run.specs.declared.outcome.Outcome.TheVariants.{Usage, Memory, ReadFault, WriteFault, FolderFailed}
use Rattle.provision_run.specs.Answers.{HasWritten, HasWrittenGenerated, status_of}
use Rattle.provision_run.specs.OnFolder.{HasWrittenOn, HostState, is_of_folder}

-- The program was started with these arguments at this time of the clock, and ended with this status. It is the
-- status of an outcome of which all of these hold:
-- - written: If the arguments do not ask for a run on a folder, the program has written what belongs to this outcome.
--   The bytes of the input must be known.
-- - on_folder: If they ask for a run on a folder, the program has written what belongs to this outcome, and the host
--   holds what belongs to it.
-- - usage: It is Usage only if the arguments have no meaning.
-- - known: If the arguments have no meaning, and do not ask for a run on a folder, it is Usage, WriteFault or Memory.
-- - generated: If they ask for a run over a generated tree, the program has written what belongs to this outcome.
-- - rooted: It is BadFolder or FolderFailed only if they ask for a run on a folder.
-- - read_fault, write_fault, folder_failed: It is ReadFault only if `read` holds, WriteFault only if `wrote` holds,
--   and FolderFailed only if `failed` holds. These say that the count of faults of the source, the sink or the host
--   rose.
-- `old` and `new` are what the sink held before and after, if this is known. `before` and `after` are what the host
-- tells of itself before and after.
pub record IsStatusOf (words : List (List ℕ)) (clock_micros : ℕ) (input old new : Option (List ℕ)) (before after : HostState)
    (read wrote failed : Type 0) (status : ℕ) : Type 0 where
  pub outcome : Outcome
  pub status_is : status ≡ status_of outcome
  pub written : rooted_of words ≡ None → IfSome input (λ bytes. HasWritten words clock_micros bytes outcome old new)
  pub on_folder : IfSome (rooted_of words) (λ rooted. HasWrittenOn (spelled rooted.folder) rooted.options clock_micros before after outcome old new)
  pub usage : outcome ≡ Usage → parse_args words ≡ None
  pub known : rooted_of words ≡ None → parse_args words ≡ None → (outcome ≡ Usage) ⊎ ((outcome ≡ WriteFault) ⊎ (outcome ≡ Memory))
  pub generated : (seed count : ℕ) → parse_args words ≡ Some (Generate seed count) → HasWrittenGenerated seed count outcome old new
  pub rooted : is_of_folder outcome ≡ true → is_some (rooted_of words) ≡ true
  pub read_fault : outcome ≡ ReadFault → read
  pub write_fault : outcome ≡ WriteFault → wrote
  pub folder_failed : outcome ≡ FolderFailed → failed
