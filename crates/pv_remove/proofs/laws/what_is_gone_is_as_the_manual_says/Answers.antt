use Rattle.pv_remove.proofs.SentenceLaws.{gone_by}
use Rattle.pv_remove.proofs.laws.what_is_gone_is_as_the_manual_says.Goals as goal

pub returns : goal.returns
returns c = λ lines t q tree. gone_by lines t tree q
