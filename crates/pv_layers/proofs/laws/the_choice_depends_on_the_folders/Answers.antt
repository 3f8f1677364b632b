use Rattle.pv_layers.proofs.InputLaws.{chosen-same}
use Rattle.pv_layers.proofs.laws.the_choice_depends_on_the_folders.Goals as goal

pub returns : goal.returns
returns c = chosen-same
