use Rattle.pv_clean.proofs.SentenceLaws.{aged_alone}
use Rattle.pv_clean.proofs.laws.only_what_is_aged_is_as_the_manual_says.Goals as goal

pub returns : goal.returns
returns c = aged_alone
