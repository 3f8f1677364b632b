use Rattle.pv_remove.proofs.StopLaws.{purge_recovers}
use Rattle.pv_remove.proofs.laws.a_purge_cut_short_recovers.Goals as goal

pub returns : goal.returns
returns c = purge_recovers
