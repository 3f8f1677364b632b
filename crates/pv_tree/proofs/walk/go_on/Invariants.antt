use Rattle.std.proofs.Common.{◌≡◌, false, length, vec_len}
use Rattle.pv_tree.specs.Walks.{IsWay, left_in}
use Rattle.pv_tree.proofs.walk.go_on.Given as goal

abbrev pub invariant-loop-number : goal.invariant-loop-number
invariant-loop-number l = record {
  way : IsWay l.slots.items l.names.items l.opened.items;
  left : left_in false (length l.slots.items) l.slots.items l.names.items l.opened.items
      ≡ left_in false (length l.slots.items) l.slots.items l.fn.names.items l.fn.opened.items;
}

abbrev pub decreases-loop-number : goal.decreases-loop-number
decreases-loop-number l = vec_len l.opened
