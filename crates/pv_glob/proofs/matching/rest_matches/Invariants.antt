use Rattle.pv_glob.proofs.Along.{Going, tries_left}
use Rattle.std.proofs.Common.{◌+◌, ◌*◌, length}
use Rattle.pv_glob.proofs.matching.rest_matches.Given as goal

abbrev pub invariant-loop-rest : goal.invariant-loop-rest
invariant-loop-rest l = Going l.fn.elements l.fn.name l.rest l.left l.last_many

abbrev pub decreases-loop-rest : goal.decreases-loop-rest
decreases-loop-rest l = tries_left l.fn.name l.last_many * (length l.fn.elements + 1) + length l.rest
