use Rattle.std.proofs.Common.{ap}
use Rattle.pv_steps.specs.Trees.{kind_of}
use Rattle.pv_tree.specs.Held.{Held}
use Rattle.pv_tree.proofs.State.{read_object, read_none}
use Rattle.pv_tree.proofs.mem_tree.MemTree.kind_at.Goals as goal

pub returns-in-Some-clause-kind : goal.returns-in-Some-clause-kind
returns-in-Some-clause-kind c =
    ap kind_of (read_object c.self.inside.slots.items c.args.self.now.files c.args.names.now c.self.invariant.whole.forest (ap (λ (h : Held). h.files) c.self.view_is) c.in-Some.slot.now c.in-Some.ensures)

pub returns-in-None-clause-kind : goal.returns-in-None-clause-kind
returns-in-None-clause-kind c =
    ap kind_of (read_none c.self.inside.slots.items c.args.self.now.files c.args.names.now c.self.invariant.whole.forest (ap (λ (h : Held). h.files) c.self.view_is) c.in-None.ensures)
