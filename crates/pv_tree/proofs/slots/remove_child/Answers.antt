use Rattle.std.proofs.Common.{List, ℕ, ap, ◌∙◌}
use Rattle.pv_tree.proofs.SlotLaws.{set_remove, same_objects, old_child}
use Rattle.pv_tree.proofs.slots.remove_child.Goals as goal

pub returns-clause-edges : goal.returns-clause-edges
returns-clause-edges c = set_remove c.args.slots.now.items c.args.number c.index_mut-slot.result.now _ c.requires c.index_mut-slot.ensures.value c.args.name.now c.remove.ensures.items

pub returns-clause-objects : goal.returns-clause-objects
returns-clause-objects c = same_objects c.args.slots.now.items c.args.number c.index_mut-slot.result.now _ c.requires c.index_mut-slot.ensures.value
    (ap (λ (b : List ℕ). record { node = c.index_mut-slot.result.now.node; payload = b }) c.remove.ensures.payload)

pub returns-clause-old : goal.returns-clause-old
returns-clause-old c = c.remove.ensures.old ∙ old_child c.args.slots.now.items c.args.number c.index_mut-slot.result.now c.index_mut-slot.result.now c.requires c.index_mut-slot.ensures.value c.args.name.now
