use Rattle.std.proofs.Common.{◌≡◌, ◌∷◌, length, map}
use Rattle.pv_explain.proofs.RegionLaws.{left_out}
use Rattle.pv_explain.proofs.region.closed_region.Given as goal

abbrev pub invariant-loop-open : goal.invariant-loop-open
invariant-loop-open l = l.region.ends.items ≡ l.path ∷ map (λ copy. copy.from) l.copies.items

abbrev pub decreases-loop-open : goal.decreases-loop-open
decreases-loop-open l = length (left_out l.region.tops.items l.copies.items)
