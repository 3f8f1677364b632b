use Rattle.std.proofs.Common.{◌≡◌, drop}
use Rattle.pv_overlap.specs.Heads.{common_with}
use Rattle.pv_overlap.proofs.heads.common_with.Given as goal

abbrev pub invariant-loop-plain : goal.invariant-loop-plain
invariant-loop-plain l = common_with l.head (drop l.plain-index l.plains) ≡ common_with l.fn.path l.plains
