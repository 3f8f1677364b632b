use Rattle.std.proofs.Common.{length}
use Rattle.pv_glob.proofs.Disjoint.{Disjoint}
use Rattle.pv_glob.proofs.apart.are_apart.Given as goal

abbrev pub invariant-loop-left : goal.invariant-loop-left
invariant-loop-left l = Disjoint l.left l.right → Disjoint l.fn.a l.fn.b

abbrev pub decreases-loop-left : goal.decreases-loop-left
decreases-loop-left l = length l.left
