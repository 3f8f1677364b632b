use Rattle.std.proofs.Common.{◌≡◌, map, take}
use Rattle.pv_overlap.specs.Marks.{traits_of}
use Rattle.pv_overlap.proofs.marking.all_traits.Given as goal

abbrev pub invariant-loop-line : goal.invariant-loop-line
invariant-loop-line l = l.traits.items ≡ map traits_of (take l.line-index l.lines)
