use Rattle.pv_remove.proofs.InputLaws.{purge_on_way}
use Rattle.pv_remove.proofs.laws.a_purge_leaves_what_lines_are_read_from.Goals as goal

pub returns : goal.returns
returns c = λ lines t u q tree are free way input. purge_on_way lines are free t tree u way q input
