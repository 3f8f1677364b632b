use Rattle.std.proofs.Common.{◌-◌, ◌≡◌, ℕ, ◌+◌, ◌^◌, ◌<◌, ◌≤◌}
use Rattle.pv_tree.specs.Finding.{IsRising}
use Rattle.pv_tree.proofs.BinarySearch.{IsEnough}
use Rattle.pv_tree.proofs.binary_search.place_of.Given as goal

abbrev pub invariant-loop-low : goal.invariant-loop-low
invariant-loop-low g l = record {
  orders : g.P.Probe.orders l.probe ≡ g.P.Probe.orders l.fn.probe;
  top : l.high ≤ l.len;
  within : (h : IsRising (g.P.Probe.orders l.fn.probe)) → (l.low ≤ h.less) × (h.less + h.equal ≤ l.high);
  enough : (d : ℕ) → l.len < 2 ^ d → IsEnough d (l.high - l.low) (g.P.Probe.left l.fn.probe) (g.P.Probe.left l.probe);
}

abbrev pub decreases-loop-low : goal.decreases-loop-low
decreases-loop-low g l = l.high - l.low
