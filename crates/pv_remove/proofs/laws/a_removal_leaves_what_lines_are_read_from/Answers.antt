use Rattle.pv_remove.proofs.InputLaws.{removal_on_way}
use Rattle.pv_remove.proofs.laws.a_removal_leaves_what_lines_are_read_from.Goals as goal

pub returns : goal.returns
returns c = λ lines t u q tree are free way input. removal_on_way lines are free t tree u way q input
