use Rattle.pv_remove.proofs.GovernedLaws.{purged_governed}
use Rattle.pv_remove.proofs.laws.what_is_purged_is_governed.Goals as goal

pub returns : goal.returns
returns c = purged_governed
