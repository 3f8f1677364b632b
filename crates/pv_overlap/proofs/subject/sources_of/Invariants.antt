use Rattle.std.proofs.Common.{◌≡◌, take}
use Rattle.pv_overlap.specs.Subjects.{sources_of}
use Rattle.pv_overlap.proofs.subject.sources_of.Given as goal

abbrev pub invariant-loop-line : goal.invariant-loop-line
invariant-loop-line l = l.sources ≡ sources_of (take l.line-index l.lines)
