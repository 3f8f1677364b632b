use Rattle.pv_clean.proofs.SentenceLaws.{aged_by}
use Rattle.pv_clean.proofs.laws.what_is_aged_is_as_the_manual_says.Goals as goal

pub returns : goal.returns
returns c = λ lines now t q tree. aged_by lines now t tree q
