use Rattle.pv_steps.proofs.NameLaws.{names_below-same}
use Rattle.pv_steps.proofs.laws.presence_decides_names.Goals as goal

pub returns : goal.returns
returns c = names_below-same
