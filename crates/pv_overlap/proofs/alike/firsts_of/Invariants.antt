use Rattle.pv_overlap.proofs.AlikeLaws.{FirstsUpto}
use Rattle.pv_overlap.proofs.alike.firsts_of.Given as goal

abbrev pub invariant-loop-i : goal.invariant-loop-i
invariant-loop-i l = FirstsUpto l.reaches l.firsts.items l.i
