use Rattle.std.proofs.Common.{take}
use Rattle.pv_tree.proofs.BelowLaws.{IsClosed}
use Rattle.pv_tree.proofs.walk.opened_along.Given as goal

abbrev pub invariant-loop-name : goal.invariant-loop-name
invariant-loop-name l = IsClosed l.slots.items 0 (take l.name-index l.names) l.opened.items l.number
