use Rattle.pv_steps.proofs.NameLaws.{names_below-are}
use Rattle.pv_steps.proofs.laws.names_are_of_what_stands_there.Goals as goal

pub returns : goal.returns
returns c = names_below-are
