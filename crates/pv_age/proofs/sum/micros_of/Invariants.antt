use Rattle.std.proofs.Common.{◌≡◌, length}
use Rattle.pv_age.specs.Sums.{micros_of, sum_with}
use Rattle.pv_age.proofs.sum.micros_of.Given as goal

-- the rest makes of the total what the text makes
abbrev pub invariant-loop-rest : goal.invariant-loop-rest
invariant-loop-rest l = sum_with 0 l.total l.rest ≡ micros_of l.text

abbrev pub decreases-loop-rest : goal.decreases-loop-rest
decreases-loop-rest l = length l.rest
