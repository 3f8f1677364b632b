use Rattle.std.proofs.Common.{◌-◌, ◌+◌, ◌*◌, length}
use Rattle.pv_glob.specs.Pairs.{target}
use Rattle.pv_glob.proofs.Runs.{Running}
use Rattle.pv_glob.proofs.pair.add_runs.Given as goal

abbrev pub invariant-loop-low : goal.invariant-loop-low
invariant-loop-low l = Running (target l.components.left.now l.components.right.now l.spot.begun l.spot.left l.spot.right) (7 * ((length l.components.left.now + 1) * (length l.components.right.now + 1))) l.low l.initial.moves l.moves l.run

abbrev pub decreases-loop-low : goal.decreases-loop-low
decreases-loop-low l = 256 - l.low
