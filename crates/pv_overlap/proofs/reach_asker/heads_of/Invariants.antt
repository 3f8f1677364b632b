use Rattle.std.proofs.Common.{◌≡◌, take}
use Rattle.pv_overlap.specs.Subjects.{heads_of}
use Rattle.pv_overlap.proofs.reach_asker.heads_of.Given as goal

abbrev pub invariant-loop-reach : goal.invariant-loop-reach
invariant-loop-reach l = l.heads ≡ heads_of (take l.reach-index l.reaches)
