use Rattle.pv_layers.proofs.InputLaws.{chosen-input}
use Rattle.pv_layers.proofs.laws.the_chosen_stand_in_the_folders.Goals as goal

pub returns : goal.returns
returns c = chosen-input
