-- Runs on a folder that were cut short, one or more, each on what the last one left there, and then a complete run.
-- The folder then holds what one complete run leaves (systemd-tmpfiles(8), systemd-sysusers(8), `--root`).
use Rattle.std.specs.Prelude.{◌≡◌, ℕ, List, ◌∷◌, [], Some}
use Rattle.pv_folder.specs.Opening.{IsOpened}
use Rattle.pv_folder.specs.Content.{Content, held, spelled}
use Rattle.pv_path.specs.Paths.{Path}
use Rattle.pv_steps.specs.Trees.{Files}
use Rattle.pv_text.specs.Facts.{Values}
use Rattle.pv_words.specs.declared.options.Options.{Options}
use Rattle.pv_words.specs.declared.rooted.Rooted.{Rooted}
use Rattle.pv_words.specs.Rooted.{rooted_of}
use Rattle.provision_run.specs.declared.ending.RunEnd.{RunEnd}
use Rattle.provision_run.specs.declared.outcome.Outcome.TheVariants.{Stopped}
use Rattle.provision_run.specs.OnFolder.{IsCutOn, IsKept, IsRunOn}
use Rattle.provision_run.specs.OverTree.{HasLeft, outcome_of}
use Rattle.provision_run.specs.Stops.{IsCalm, unlimited}
use Rattle.provision_run.specs.Words.{moment_of}

-- Arguments that name this folder and mean these options for it, and the time of a run with them. Only `--stop-after`
-- and the time may differ from the options.
pub record AreLikeOn (options : Options) (folder : Path) (words : List (List ℕ)) (clock_micros moment : ℕ) : Type 0 where
  pub own : Rooted
  pub meaning : rooted_of words ≡ Some own
  pub named : spelled own.folder ≡ folder
  pub alike : unlimited own.options ≡ unlimited options
  pub when : moment ≡ moment_of own.options clock_micros

-- A run on a folder of a host that tells its content was cut short, and the folder keeps the tree that the run has
-- left. It was stopped at its limit, a step failed on the host, or memory ran out.
pub data WasBrokenOff (folder : Path) (options : Options) (clock_micros : ℕ) (old new : Content) : Type 0 where
  stopped : (count : ℕ) (messages : List (List ℕ)) → IsRunOn folder options clock_micros (Some old) (Some new) (Stopped count) messages
      → WasBrokenOff folder options clock_micros old new
  failed : (messages : List (List ℕ)) → IsCutOn folder options clock_micros (Some old) (Some new) messages → WasBrokenOff folder options clock_micros old new
  short : (facts : Values) (tree left : Files) → IsOpened folder old facts tree → HasLeft options facts (moment_of options clock_micros) tree left
      → IsKept folder facts left (held old) (held new) → WasBrokenOff folder options clock_micros old new

-- Such a run with such arguments.
pub record HasStoppedOn (options : Options) (folder : Path) (moment : ℕ) (old new : Content) : Type 0 where
  pub words : List (List ℕ)
  pub clock_micros : ℕ
  pub like : AreLikeOn options folder words clock_micros moment
  pub broken : WasBrokenOff (spelled like.own.folder) like.own.options clock_micros old new

-- Each tree with which the folder can be opened is calm: `IsCalm` holds of it.
abbrev pub IsCalmOn : Options → Path → Content → Type 0
IsCalmOn options folder content = (facts : Values) (t : Files) → IsOpened folder content facts t → IsCalm options facts t

-- Runs at some times were cut short in this way, each on what the last one left in the folder. The folder was calm
-- each time.
abbrev pub HaveStoppedOn : Options → Path → List ℕ → Content → Content → Type 0
HaveStoppedOn options folder [] old last = last ≡ old
HaveStoppedOn options folder (moment ∷ moments) old last =
    IsCalmOn options folder old × ((next : Content) × (HasStoppedOn options folder moment old next × HaveStoppedOn options folder moments next last))

-- A run on a folder with such arguments was complete.
pub record HasEndedOn (options : Options) (folder : Path) (moment : ℕ) (old new : Content) : Type 0 where
  pub words : List (List ℕ)
  pub clock_micros : ℕ
  pub like : AreLikeOn options folder words clock_micros moment
  pub end : RunEnd
  pub messages : List (List ℕ)
  pub run : IsRunOn (spelled like.own.folder) like.own.options clock_micros (Some old) (Some new) (outcome_of end) messages

-- Two contents of the host, each compared with the same old content, keep in the folder the same facts, and two trees
-- of which something holds.
pub record AreFolders (Holds : Files → Files → Type 0) (folder : Path) (old one two : Content) : Type 0 where
  pub facts : Values
  pub tree : Files
  pub other : Files
  pub first : IsKept folder facts tree (held old) (held one)
  pub second : IsKept folder facts other (held old) (held two)
  pub holds : Holds tree other
