use Rattle.std.proofs.Common.{◌≡◌, ◌+◌, ◌++◌, length, take}
use Rattle.std.specs.List.{flat_map}
use Rattle.pv_overlap.specs.Marks.{own_marks, pair_marks}
use Rattle.pv_overlap.specs.Subjects.{sources_of}
use Rattle.pv_overlap.proofs.marking.marks_of.Given as goal

abbrev pub invariant-loop-pair : goal.invariant-loop-pair
invariant-loop-pair l = l.marks.items ≡ own_marks 0 l.lines ++ flat_map (pair_marks l.lines (length l.lines + length (sources_of l.lines))) (take l.pair-index l.pairs)
