use Rattle.pv_clean.proofs.InputLaws.{cleaning_on_way}
use Rattle.pv_clean.proofs.laws.a_cleaning_leaves_what_lines_are_read_from.Goals as goal

pub returns : goal.returns
returns c = λ lines now t u q tree free way input. cleaning_on_way lines free now t tree u way q input
