use Rattle.pv_sysusers.proofs.SettledLaws.{groups_settled}
use Rattle.pv_sysusers.proofs.laws.groups_that_are_there_stay.Goals as goal

pub returns : goal.returns
returns c = groups_settled
