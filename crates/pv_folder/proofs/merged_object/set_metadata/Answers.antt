use Rattle.std.proofs.Common.{◌∙◌, sym, ap}
use Rattle.pv_steps.specs.declared.node.Node.{Node}
use Rattle.pv_steps.specs.Steps.{on_at}
use Rattle.pv_steps.specs.Trees.{places}
use Rattle.pv_tree.specs.Changes.{with_node}
use Rattle.pv_folder.proofs.MergingLaws.{metadata_other, metadata_same}
use Rattle.pv_folder.proofs.merged_object.set_metadata.Goals as goal

pub returns-in_ok-copy-clause-places : goal.returns-in_ok-copy-clause-places
returns-in_ok-copy-clause-places c =
    let t = places c.args.tree.now.files in
    let p = c.args.names.now in
    c.set_node.ensures.places
    ∙ ap (λ (n : Node). on_at p (with_node n) t) c.in_ok-copy.ensures
    ∙ metadata_same p c.args.node.now t c.args.kind c.requires.kind (sym c.same_kind.ensures ∙ c.if-same_kind.true)

pub returns-else-same_kind-clause-places : goal.returns-else-same_kind-clause-places
returns-else-same_kind-clause-places c =
    metadata_other c.args.names.now c.args.node.now (places c.args.tree.now.files) c.args.kind c.requires.kind (sym c.same_kind.ensures ∙ c.if-same_kind.false) c.requires.plain
