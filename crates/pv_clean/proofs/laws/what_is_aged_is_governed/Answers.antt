use Rattle.pv_clean.proofs.InputLaws.{aged_governed}
use Rattle.pv_clean.proofs.laws.what_is_aged_is_governed.Goals as goal

pub returns : goal.returns
returns c = aged_governed
