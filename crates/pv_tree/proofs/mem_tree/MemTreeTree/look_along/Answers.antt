use Rattle.std.proofs.Common.{ap}
use Rattle.pv_tree.specs.Held.{Held}
use Rattle.pv_tree.proofs.AlongLaws.{nodes_there}
use Rattle.pv_tree.proofs.mem_tree.MemTreeTree.look_along.Goals as goal

pub returns-clause-nodes : goal.returns-clause-nodes
returns-clause-nodes c =
    nodes_there c.self.inside.slots.items c.args.self.now.files c.self.invariant.whole.forest (ap (λ (h : Held). h.files) c.self.view_is)
    c.nodes_along.result c.args.path.now c.names.result.now c.names.ensures.value c.nodes_along.ensures.nodes
