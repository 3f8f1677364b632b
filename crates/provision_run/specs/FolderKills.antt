-- A run on a folder that is killed between two changes of the host, before the new manifest is in place, and then a
-- complete run (systemd-tmpfiles(8), `--root`).
use Rattle.std.specs.Prelude.{◌≡◌, ℕ, false, List, take}
use Rattle.std.specs.List.{AllByRecursion}
use Rattle.pv_folder.specs.Content.{Content, held, spelled}
use Rattle.pv_folder.specs.Folders.{manifest_path}
use Rattle.pv_folder.specs.Moments.{IsBetween}
use Rattle.pv_folder.specs.Opening.{IsOpened}
use Rattle.pv_laws.specs.Moments.{SameObjectStates}
use Rattle.pv_laws.specs.Stopping.{CopiesNothing}
use Rattle.pv_lines.specs.declared.line.Line.{Line}
use Rattle.pv_lines.specs.Lines.{IsLine}
use Rattle.pv_path.specs.Paths.{Path, has_staging}
use Rattle.pv_steps.specs.declared.step.Step.{Step}
use Rattle.pv_steps.specs.Runs.{after_all}
use Rattle.pv_steps.specs.Trees.{Files, places}
use Rattle.pv_table.specs.Active.{in_create_order}
use Rattle.pv_table.specs.Asked.{operations_of}
use Rattle.pv_text.specs.Facts.{Values}
use Rattle.pv_walk.specs.Nodes.{object_states_of}
use Rattle.pv_walk.specs.Operations.{run}
use Rattle.pv_words.specs.declared.options.Options.{Options}
use Rattle.provision_run.specs.FolderStops.{AreLikeOn}
use Rattle.provision_run.specs.OnFolder.{AreAsked}
use Rattle.provision_run.specs.OverTree.{HasLeft}
use Rattle.provision_run.specs.Words.{moment_of}

-- What a killed run has left in a folder. The folder was opened with a tree, and steps of the run lead on from there.
-- The folder holds the directories and files of the tree after some of these steps. Its manifest is the old one.
pub record WasKilled (folder : Path) (options : Options) (clock_micros : ℕ) (old new : Content) : Type 0 where
  pub facts : Values
  pub tree : Files
  pub opened : IsOpened folder old facts tree
  pub left : Files
  pub gone : HasLeft options facts (moment_of options clock_micros) tree left
  pub asked : List Step
  pub are_asked : AreAsked tree (moment_of options clock_micros) gone.steps asked
  pub text : List ℕ
  pub between : IsBetween folder tree asked (moment_of options clock_micros) text (held old) (held new)
  pub manifest : held new (manifest_path folder) ≡ held old (manifest_path folder)

-- The same for a run whose arguments mean these options. Only `--stop-after` and the time may differ.
pub record HasKilledOn (options : Options) (folder : Path) (moment : ℕ) (old new : Content) : Type 0 where
  pub words : List (List ℕ)
  pub clock_micros : ℕ
  pub like : AreLikeOn options folder words clock_micros moment
  pub killed : WasKilled (spelled like.own.folder) like.own.options clock_micros old new

-- The folder is opened again: the old manifest is merged with the real directories and files. The result is the tree
-- after some steps of the killed run, at each path, timestamps aside.
abbrev pub IsMergedBack : (options : Options) (folder : Path) (moment : ℕ) (old new : Content) → HasKilledOn options folder moment old new → Files → Type 0
IsMergedBack options folder moment old new cut v =
    (n : ℕ) × SameObjectStates v (after_all cut.killed.tree (take n cut.killed.gone.steps) (moment_of cut.like.own.options cut.clock_micros))

-- Lines that copy nothing determine everything that a kill may lose. At each path without a staging name, their
-- operations in the order of creating give the same result on both trees.
pub record SayAll (lines : List Line) (t v : Files) : Type 0 where
  pub are_lines : AllByRecursion IsLine lines
  pub copy_nothing : AllByRecursion CopiesNothing lines
  pub end_alike : (q : Path) → has_staging q ≡ false
      → run (operations_of (in_create_order lines) q) (object_states_of (places v) q) ≡ run (operations_of (in_create_order lines) q) (object_states_of (places t) q)
