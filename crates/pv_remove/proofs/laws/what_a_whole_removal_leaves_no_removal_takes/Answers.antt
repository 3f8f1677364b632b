use Rattle.pv_remove.proofs.AgainLaws.{goes_too}
use Rattle.pv_remove.proofs.laws.what_a_whole_removal_leaves_no_removal_takes.Goals as goal

pub returns : goal.returns
returns c = λ lines t u q tree are whole gone there. goes_too lines are t tree whole u q gone there
