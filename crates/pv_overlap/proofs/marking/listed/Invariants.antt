use Rattle.std.proofs.Common.{◌≡◌, map, take}
use Rattle.pv_overlap.specs.Marks.{reason_of}
use Rattle.pv_overlap.proofs.marking.listed.Given as goal

abbrev pub invariant-loop-mark : goal.invariant-loop-mark
invariant-loop-mark l = l.list ≡ map reason_of (take l.mark-index l.marks)
