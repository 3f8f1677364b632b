use Rattle.pv_walk.proofs.OperationLaws.{from_the_gap}
use Rattle.pv_walk.proofs.laws.a_first_renewal_absorbs_what_was_there.Goals as goal

pub returns : goal.returns
returns c = from_the_gap
