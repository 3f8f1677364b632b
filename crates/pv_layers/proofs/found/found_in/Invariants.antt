use Rattle.std.proofs.Common.{◌≡◌, drop}
use Rattle.pv_layers.specs.Folders.{found_in}
use Rattle.pv_layers.proofs.found.found_in.Given as goal

abbrev pub invariant-loop-folder : goal.invariant-loop-folder
invariant-loop-folder g l = found_in (g.T.Tree.state l.tree) l.folders l.name ≡ found_in (g.T.Tree.state l.tree) (drop l.folder-index l.folder-items) l.name
