use Rattle.std.proofs.Common.{◌≡◌, drop}
use Rattle.pv_tree.specs.Edges.{led}
use Rattle.pv_tree.specs.Slots.{child_in}
use Rattle.pv_tree.proofs.slots.number_from.Given as goal

abbrev pub invariant-loop-name : goal.invariant-loop-name
invariant-loop-name l = led (child_in l.slots.items) l.number (drop l.name-index l.names) ≡ led (child_in l.slots.items) l.start l.names
