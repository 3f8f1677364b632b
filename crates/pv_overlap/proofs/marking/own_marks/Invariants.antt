use Rattle.std.proofs.Common.{◌≡◌, take}
use Rattle.pv_overlap.specs.Marks.{own_marks}
use Rattle.pv_overlap.proofs.marking.own_marks.Given as goal

abbrev pub invariant-loop-i : goal.invariant-loop-i
invariant-loop-i l = l.marks.items ≡ own_marks 0 (take l.i l.lines)
