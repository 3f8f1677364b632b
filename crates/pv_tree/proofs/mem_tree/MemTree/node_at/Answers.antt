use Rattle.std.proofs.Common.{ap, option_map}
use Rattle.pv_steps.specs.declared.object.Object.{Object}
use Rattle.pv_tree.specs.Held.{Held}
use Rattle.pv_tree.proofs.State.{read_object, read_none}
use Rattle.pv_tree.proofs.mem_tree.MemTree.node_at.Goals as goal

pub returns-in-Some-clause-node : goal.returns-in-Some-clause-node
returns-in-Some-clause-node c =
    ap (option_map (λ (o : Object). o.node)) (read_object c.self.inside.slots.items c.args.self.now.files c.args.path.now c.self.invariant.whole.forest (ap (λ (h : Held). h.files) c.self.view_is) c.in-Some.slot.now c.in-Some.ensures)

pub returns-in-None-clause-node : goal.returns-in-None-clause-node
returns-in-None-clause-node c =
    ap (option_map (λ (o : Object). o.node)) (read_none c.self.inside.slots.items c.args.self.now.files c.args.path.now c.self.invariant.whole.forest (ap (λ (h : Held). h.files) c.self.view_is) c.in-None.ensures)
