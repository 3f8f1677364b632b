use Rattle.std.proofs.Common.{◌≡◌, ◌++◌, drop}
use Rattle.pv_overlap.specs.Heads.{common}
use Rattle.pv_overlap.proofs.heads.common.Given as goal

abbrev pub invariant-loop-i : goal.invariant-loop-i
invariant-loop-i l = l.path ++ common (drop l.i l.a) (drop l.i l.b) ≡ common l.a l.b
