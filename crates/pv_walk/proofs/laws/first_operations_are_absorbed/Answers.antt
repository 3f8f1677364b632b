use Rattle.pv_walk.proofs.OperationLaws.{absorbed}
use Rattle.pv_walk.proofs.laws.first_operations_are_absorbed.Goals as goal

pub returns : goal.returns
returns c = absorbed
