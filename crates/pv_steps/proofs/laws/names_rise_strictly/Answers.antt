use Rattle.pv_steps.proofs.NameLaws.{names_below-rise}
use Rattle.pv_steps.proofs.laws.names_rise_strictly.Goals as goal

pub returns : goal.returns
returns c = names_below-rise
