use Rattle.std.proofs.Common.{length}
use Rattle.pv_glob.proofs.Places.{Searching}
use Rattle.pv_glob.proofs.bracket.body_length.Given as goal

abbrev pub invariant-loop-rest : goal.invariant-loop-rest
invariant-loop-rest l = Searching l.text l.rest l.length

abbrev pub decreases-loop-rest : goal.decreases-loop-rest
decreases-loop-rest l = length l.rest
