use Rattle.std.proofs.Common.{◌≡◌, take}
use Rattle.pv_overlap.proofs.alike.are_same_components.Given as goal

abbrev pub invariant-loop-i : goal.invariant-loop-i
invariant-loop-i l = take l.i l.a ≡ take l.i l.b
