use Rattle.std.proofs.Common.{List, ℕ, ap}
use Rattle.pv_tree.proofs.SlotLaws.{put_edges, same_objects, put_old}
use Rattle.pv_tree.proofs.slots.put_child.Goals as goal

pub returns-clause-edges : goal.returns-clause-edges
returns-clause-edges c = put_edges c.put.result c.args.slots.now.items c.args.number c.index_mut-slot.result.now _ c.requires c.index_mut-slot.ensures.value c.args.name c.args.child c.put.ensures.ok

pub returns-clause-objects : goal.returns-clause-objects
returns-clause-objects c = same_objects c.args.slots.now.items c.args.number c.index_mut-slot.result.now _ c.requires c.index_mut-slot.ensures.value
    (ap (λ (b : List ℕ). record { node = c.index_mut-slot.result.now.node; payload = b }) c.put.ensures.payload)

pub returns-clause-old : goal.returns-clause-old
returns-clause-old c = put_old c.put.result c.args.slots.now.items c.args.number c.index_mut-slot.result.now c.requires c.index_mut-slot.ensures.value c.args.name c.put.ensures.old
