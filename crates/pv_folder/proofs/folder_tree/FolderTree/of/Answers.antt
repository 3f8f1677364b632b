use Rattle.pv_folder.specs.Content.{spelled}
use Rattle.pv_folder.proofs.ReadyLaws.{agrees_kept, ready_kept}
use Rattle.pv_folder.proofs.folder_tree.FolderTree.of.Goals as goal

pub invariant_of-result : goal.invariant_of-result
invariant_of-result g c = record {
  ready = ready_kept (spelled c.args.folder.items) c.args.tree.files (g.H.Host.content c.args.host.now) c.requires;
  agrees = λ settled. agrees_kept (spelled c.args.folder.items) c.args.tree.files (g.H.Host.content c.args.host.now) c.requires;
}
