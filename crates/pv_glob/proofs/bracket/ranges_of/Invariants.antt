use Rattle.std.proofs.Common.{◌≡◌, ◌++◌, length}
use Rattle.std.specs.List.{flat_map}
use Rattle.pv_glob.specs.Elements.{item_ranges, items_of}
use Rattle.pv_glob.proofs.bracket.ranges_of.Given as goal

abbrev pub invariant-loop-rest : goal.invariant-loop-rest
invariant-loop-rest l = l.ranges ++ flat_map item_ranges (items_of l.rest) ≡ flat_map item_ranges (items_of l.body)

abbrev pub decreases-loop-rest : goal.decreases-loop-rest
decreases-loop-rest l = length l.rest
