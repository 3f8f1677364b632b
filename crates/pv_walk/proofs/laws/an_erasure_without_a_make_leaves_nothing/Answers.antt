use Rattle.pv_walk.proofs.OperationLaws.{erased}
use Rattle.pv_walk.proofs.laws.an_erasure_without_a_make_leaves_nothing.Goals as goal

pub returns : goal.returns
returns c = erased
