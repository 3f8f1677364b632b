use Rattle.pv_remove.proofs.SentenceLaws.{gone_alone}
use Rattle.pv_remove.proofs.laws.only_what_is_gone_is_as_the_manual_says.Goals as goal

pub returns : goal.returns
returns c = gone_alone
