use Rattle.std.proofs.Common.{◌≡◌, Err, ◌∙◌, sym, ap}
use Rattle.std.specs.FinMap as fin
use Rattle.pv_path.specs.Paths.{path_total}
use Rattle.pv_tree.specs.Growth.{Grown}
use Rattle.pv_tree.specs.declared.builder.BuildFault.{BuildFault}
use Rattle.pv_tree.specs.declared.builder.BuildFault.TheVariants as fault
use Rattle.pv_image.proofs.Order.{insert_last}
use Rattle.pv_image.proofs.Stages.{node_orphan, node_placed}
use Rattle.pv_image.proofs.tree.add_node.Goals as goal

pub returns-in-Ok-clause-added : goal.returns-in-Ok-clause-added
returns-in-Ok-clause-added c =
    ap (λ (g : Grown). fin.entries g.files) c.in-Ok.ensures.ok
    ∙ insert_last path_total c.args.tree.now.files c.args.path (sym (c.requires.last c.args.path) ∙ c.in-Ok.ensures.after) c.args.object

pub returns-in-Ok-clause-judged : goal.returns-in-Ok-clause-judged
returns-in-Ok-clause-judged c = λ version. node_placed c.args.number c.args.tree.now.files c.args.tree.now.last (c.args.path, c.args.object) c.requires.last version c.in-Ok.ensures.after c.in-Ok.ensures.parent

pub returns-in-Err-NoParent-clause-refused : goal.returns-in-Err-NoParent-clause-refused
returns-in-Err-NoParent-clause-refused c = λ version.
    let written_part : c.add.result ≡ Err fault.NoParent = c.in-Err-NoParent.is ∙ ap (λ (f : BuildFault). Err f) c.in-Err-NoParent.field-0-is in
    node_orphan c.args.number c.args.tree.now.files c.args.tree.now.last (c.args.path, c.args.object) c.requires.last version (c.add.ensures.late written_part) (c.add.ensures.orphan written_part)
