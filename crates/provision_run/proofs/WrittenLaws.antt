-- What a call has written, from its answer and what the sink took.
use Rattle.std.specs.Prelude.{◌≡◌, ℕ, false, List, [], take, Option, Some, None, IfSome}
use Rattle.std.proofs.Common.{refl, subst, sym}
use Rattle.std.specs.Io.KnownBytes.{Appends}
use Rattle.pv_io.specs.Transfers.{AppendsPrefix}
use Rattle.pv_words.specs.declared.invocation.Invocation.{Invocation}
use Rattle.pv_words.specs.declared.invocation.Invocation.TheVariants.{Generate}
use Rattle.provision_run.specs.declared.outcome.Outcome.{Outcome}
use Rattle.provision_run.specs.declared.outcome.Outcome.TheVariants.{Done, ConfigInvalid, NotCarriedOut, Usage, BadImage, NoFreeId, Memory, ReadFault, WriteFault, Stopped, BadFolder, FolderFailed}
use Rattle.provision_run.specs.Answers.{HasOutput, HasWritten, HasWrittenGenerated, IsGeneratedBy, IsOwn}
use Rattle.provision_run.specs.OnFolder.{is_of_folder}

-- a prefix of it was taken
pub front_written : (words : List (List ℕ)) (clock_micros : ℕ) (left : Option (List ℕ)) (found : Outcome) (out bytes : List ℕ) (old new : Option (List ℕ)) → bytes ≡ out
    → IfSome left (λ input. HasOutput words clock_micros input found out) → AppendsPrefix old new bytes → IfSome left (λ input. HasWritten words clock_micros input WriteFault old new)
front_written words clock_micros None found out bytes old new is h front = tt
front_written words clock_micros (Some input) found out bytes old new is h front =
    (found, out, h, (front.0, subst (λ (b : List ℕ). Appends old new (take front.0 b)) is front.2))

-- ---- of a run over a generated tree

module _ (asked : Option Invocation) (seed count : ℕ) (is : asked ≡ Some (Generate seed count)) where
  by_definition : (found : Outcome) (out : List ℕ) → IsGeneratedBy asked found out → IsGeneratedBy (Some (Generate seed count)) found out
  by_definition found out h = subst (λ (a : Option Invocation). IsGeneratedBy a found out) is h

  -- the three messages were taken
  pub generated_wholly : (found : Outcome) (out bytes : List ℕ) (old new : Option (List ℕ)) → bytes ≡ out → IsGeneratedBy asked found out → Appends old new bytes
      → HasWrittenGenerated seed count found old new
  unfolding HasWrittenGenerated
  generated_wholly found out bytes old new same h taken =
      let stated = by_definition found out h in
      subst (λ (o : Outcome). HasWrittenGenerated seed count o old new) (sym stated.0) (out, stated.1, subst (λ (b : List ℕ). Appends old new b) same taken)

  -- a prefix of them was
  pub generated_front : (found : Outcome) (out bytes : List ℕ) (old new : Option (List ℕ)) → bytes ≡ out → IsGeneratedBy asked found out → AppendsPrefix old new bytes
      → HasWrittenGenerated seed count WriteFault old new
  unfolding HasWrittenGenerated
  generated_front found out bytes old new same h front =
      (out, (by_definition found out h).1, (front.0, subst (λ (b : List ℕ). Appends old new (take front.0 b)) same front.2))

-- nothing was written
pub generated_nothing : (seed count : ℕ) (old new : Option (List ℕ)) → Appends old new [] → HasWrittenGenerated seed count Memory old new
unfolding HasWrittenGenerated
generated_nothing seed count old new none = none

-- ---- of no folder

pub own_unfolded : (found : Outcome) → IsOwn found → is_of_folder found ≡ false
own_unfolded Done h = refl
own_unfolded ConfigInvalid h = refl
own_unfolded NotCarriedOut h = refl
own_unfolded Usage h = refl
own_unfolded (BadImage f) h = refl
own_unfolded (NoFreeId name) h = refl
own_unfolded Memory h = refl
own_unfolded ReadFault h = refl
own_unfolded WriteFault h = refl
own_unfolded (Stopped n) h = refl
own_unfolded (BadFolder f) h = absurd h
own_unfolded FolderFailed h = absurd h
