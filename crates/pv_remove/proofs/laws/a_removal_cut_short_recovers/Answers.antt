use Rattle.pv_remove.proofs.StopLaws.{removal_recovers}
use Rattle.pv_remove.proofs.laws.a_removal_cut_short_recovers.Goals as goal

pub returns : goal.returns
returns c = removal_recovers
