use Rattle.std.proofs.Common.{◌≡◌, ◌++◌, nat_lt, filter}
use Rattle.std.specs.Vec.Iter.{into_iter_items}
use Rattle.pv_overlap.proofs.reporting.overlaps_of.Given as goal

abbrev pub invariant-loop-pair : goal.invariant-loop-pair
invariant-loop-pair l = record {
  ready : (goal.iterator-loop-pair).can_next l.pair-iterator × (goal.iterator-loop-pair).is_finite l.pair-iterator;
  kept : l.overlaps ++ filter (λ pair. nat_lt pair.second l.lines) (into_iter_items l.pair-iterator) ≡ filter (λ pair. nat_lt pair.second l.lines) l.fn.pairs;
}
