use Rattle.std.proofs.Common.{length, reverse}
use Rattle.pv_steps.proofs.TryingLaws.{Trying}
use Rattle.pv_steps.proofs.asking.try_all.Given as goal

abbrev pub invariant-loop-step : goal.invariant-loop-step
invariant-loop-step g l = Trying g.T.Tree (reverse l.fn.steps.items) (reverse l.left.items) l.now l.fn.tree l.tree

abbrev pub decreases-loop-step : goal.decreases-loop-step
decreases-loop-step g l = length l.left.items
