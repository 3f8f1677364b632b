use Rattle.std.proofs.Common.{ap}
use Rattle.pv_tree.specs.Held.{Held}
use Rattle.pv_tree.proofs.State.{names_are, slot_of_kind}
use Rattle.pv_tree.proofs.mem_tree.MemTree.names_at.Goals as goal

pub unreachable-requires : goal.unreachable-requires
unreachable-requires c = slot_of_kind c.self.inside.slots.items c.args.self.now.files c.args.path.now c.self.invariant.whole.forest (ap (λ (h : Held). h.files) c.self.view_is) c.requires c.in-None.ensures

pub returns : goal.returns
returns c = names_are c.names.result c.self.inside.slots.items c.args.self.now.files c.args.path.now c.in-Some.slot.now c.self.invariant.whole.forest (ap (λ (h : Held). h.files) c.self.view_is) c.in-Some.ensures c.names.ensures
