use Rattle.std.proofs.Common.{◌≡◌, ℕ, ◌<◌, length, get_or, []}
use Rattle.pv_overlap.specs.Walk.{head_at}
use Rattle.pv_overlap.proofs.walk.in_order.Given as goal

abbrev pub invariant-loop-i : goal.invariant-loop-i
invariant-loop-i l = record {
  count : length l.order.items ≡ l.i;
  heads : (k : ℕ) → k < l.i → head_at l.order.items k ≡ record { path = get_or l.heads k []; index = k };
}
