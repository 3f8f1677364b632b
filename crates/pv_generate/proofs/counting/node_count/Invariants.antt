use Rattle.std.proofs.Common.{◌≡◌, ◌+◌, length}
use Rattle.std.specs.FinMap as fin
use Rattle.pv_generate.proofs.counting.node_count.Given as goal

abbrev pub invariant-loop-place : goal.invariant-loop-place
invariant-loop-place l = l.count + length l.walk ≡ length (fin.entries l.tree.files)

abbrev pub decreases-loop-place : goal.decreases-loop-place
decreases-loop-place l = length l.walk
