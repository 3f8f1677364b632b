use Rattle.std.proofs.Common.{length}
use Rattle.pv_walk.proofs.TakingLaws.{Planning}
use Rattle.pv_walk.proofs.remove.removals.Given as goal

abbrev pub invariant-loop-path : goal.invariant-loop-path
invariant-loop-path g l = Planning (g.T.Tree.state l.tree) l.fn.paths.items l.left.items l.steps.items

abbrev pub decreases-loop-path : goal.decreases-loop-path
decreases-loop-path g l = length l.left.items
