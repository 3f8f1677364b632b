use Rattle.pv_walk.proofs.OperationLaws.{erased-alike, erasing-quiet}
use Rattle.pv_walk.proofs.laws.a_list_with_an_erasure_leaves_the_same.Goals as goal

pub returns-clause-same : goal.returns-clause-same
returns-clause-same c xs a b e = erased-alike xs e a b

pub returns-clause-quiet : goal.returns-clause-quiet
returns-clause-quiet c = erasing-quiet
