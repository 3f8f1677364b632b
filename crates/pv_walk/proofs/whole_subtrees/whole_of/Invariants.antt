use Rattle.std.proofs.Common.{length}
use Rattle.pv_walk.proofs.WholeLaws.{Deciding}
use Rattle.pv_walk.proofs.whole_subtrees.whole_of.Given as goal

abbrev pub invariant-loop-path : goal.invariant-loop-path
invariant-loop-path g l = Deciding l.initial.left.items (g.T.Tree.state l.tree) l.left.items l.whole

abbrev pub decreases-loop-path : goal.decreases-loop-path
decreases-loop-path g l = length l.left.items
