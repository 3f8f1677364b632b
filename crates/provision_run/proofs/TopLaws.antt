-- What belongs to words that name a folder, and to those that name none.
use Rattle.std.specs.Prelude.{◌≡◌, ℕ, List, [], Option, Some, None, IfSome}
use Rattle.std.proofs.Common.{refl, sym, ◌∙◌}
use Rattle.std.specs.Io.KnownBytes.{Appends}
use Rattle.pv_folder.specs.Content.{spelled}
use Rattle.pv_words.specs.declared.rooted.Rooted.{Rooted}
use Rattle.provision_run.specs.declared.outcome.Outcome.TheVariants.{Memory}
use Rattle.provision_run.specs.OnFolder.{HasWrittenOn, HostState, before_steps}
use Rattle.provision_run.proofs.FolderLaws.{folder_nothing}

-- words that name a folder do not name none
pub rooted_not_none : (o : Option Rooted) (rooted : Rooted) → o ≡ Some rooted → o ≡ None → ⊥
rooted_not_none o rooted is none = let no : Some rooted ≡ None = sym is ∙ none in cc

-- a run that has run out of memory
pub of_any : (o : Option Rooted) (clock_micros : ℕ) (host : HostState) (before after : Option (List ℕ)) → Appends before after []
    → IfSome o (λ rooted. HasWrittenOn (spelled rooted.folder) rooted.options clock_micros host host Memory before after)
of_any (Some rooted) clock_micros host before after none = folder_nothing (spelled rooted.folder) rooted.options clock_micros host host before after (before_steps refl refl) none
of_any None clock_micros host before after none = tt
