use Rattle.std.proofs.Common.{length}
use Rattle.pv_clean.proofs.OpenLaws.{Judging}
use Rattle.pv_clean.proofs.aging.judge_all.Given as goal

abbrev pub invariant-loop-path : goal.invariant-loop-path
invariant-loop-path g l = Judging l.aging.table.now l.aging.time (g.T.Tree.state l.aging.tree.now) l.fn.listed.items l.left.items l.judged.items l.ages.items

abbrev pub decreases-loop-path : goal.decreases-loop-path
decreases-loop-path g l = length l.left.items
