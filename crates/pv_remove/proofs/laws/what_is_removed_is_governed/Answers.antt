use Rattle.pv_remove.proofs.GovernedLaws.{removed_governed}
use Rattle.pv_remove.proofs.laws.what_is_removed_is_governed.Goals as goal

pub returns : goal.returns
returns c = removed_governed
