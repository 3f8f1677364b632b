use Rattle.std.proofs.Common.{◌≡◌, map, take}
use Rattle.pv_overlap.specs.Subjects.{reach_of}
use Rattle.pv_overlap.proofs.subject.line_reaches.Given as goal

abbrev pub invariant-loop-line : goal.invariant-loop-line
invariant-loop-line l = l.reaches.items ≡ map reach_of (take l.line-index l.lines)
