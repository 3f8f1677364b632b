use Rattle.pv_sysusers.proofs.SettledLaws.{users_settled}
use Rattle.pv_sysusers.proofs.laws.users_that_are_there_stay.Goals as goal

pub returns : goal.returns
returns c = users_settled
