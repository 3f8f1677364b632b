use Rattle.std.proofs.Common.{◌≡◌, [], drop}
use Rattle.std.specs.List.{fold, flat_map}
use Rattle.pv_layers.specs.Folders.{with_name, conf_names_in}
use Rattle.pv_layers.proofs.folders.conf_names.Given as goal

abbrev pub invariant-loop-folder : goal.invariant-loop-folder
invariant-loop-folder g l =
    fold with_name l.names.keys (flat_map (conf_names_in (g.T.Tree.state l.tree)) (drop l.folder-index l.folder-items))
    ≡ fold with_name [] (flat_map (conf_names_in (g.T.Tree.state l.tree)) l.folders)
