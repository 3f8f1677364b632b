use Rattle.std.proofs.Common.{rules}
use Rattle.pv_layers.proofs.FolderLaws.{taken_there}
use Rattle.pv_layers.proofs.found.found_in.Goals as goal

pub returns-in_default : goal.returns-in_default
returns-in_default g c =
    let t = g.T.Tree.state c.args.tree.now in
    let taken = taken_there t c.as_slice-folder-items.result.now c.loop-folder.folder-index c.folder-item.result c.args.name.now c.loop-folder-test.true in
    search (rules, taken)
