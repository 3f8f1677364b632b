use Rattle.std.proofs.Common.{◌≡◌}
use Rattle.pv_tree.specs.Slots.{child_in}
use Rattle.pv_tree.proofs.AlongLaws.{leads_beside}
use Rattle.pv_tree.proofs.slots.has_beside.Given as goal

abbrev pub invariant-loop-name : goal.invariant-loop-name
invariant-loop-name l =
    leads_beside (child_in l.slots.items) l.number l.name-iterator.a.rest.now l.name-iterator.b.rest.now
    ≡ leads_beside (child_in l.slots.items) 0 l.names l.others
