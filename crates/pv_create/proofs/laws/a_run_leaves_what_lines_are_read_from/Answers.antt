use Rattle.pv_create.proofs.InputLaws.{input_on_way}
use Rattle.pv_create.proofs.laws.a_run_leaves_what_lines_are_read_from.Goals as goal

pub returns : goal.returns
returns c = λ lines now t u q tree there are free way input plain. input_on_way lines are free now t u tree there way q input plain
