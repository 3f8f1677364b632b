use Rattle.std.proofs.Common.{ap, arith, drop, sym, ◌∙◌}
use Rattle.std.proofs.lemmas.List.{take_rest}
use Rattle.pv_path.specs.Paths.{Path}
use Rattle.pv_tree.specs.Edges.{led}
use Rattle.pv_tree.specs.Slots.{child_in, number_in}
use Rattle.pv_tree.proofs.EdgeLaws.{led-on}
use Rattle.pv_tree.proofs.NearLaws.{shared_all}
use Rattle.pv_tree.proofs.slots.number_near.Goals as goal

pub returns : goal.returns
returns c =
    let shared = c.shared_names-shared.result in
    c.number_from.ensures ∙ ap (led (child_in c.args.slots.now.items) c.args.start) (take_rest c.args.names.now shared)
    ∙ sym (ap (number_in c.args.slots.now.items) (shared_all c.args.known.now c.args.names.now shared c.shared_names-shared.ensures (omega (arith, c.if-shared-known.false)))
    ∙ led-on (child_in c.args.slots.now.items) 0 c.args.start c.args.known.now (drop shared c.args.names.now) c.requires)
