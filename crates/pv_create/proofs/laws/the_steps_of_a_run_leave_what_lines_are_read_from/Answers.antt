use Rattle.pv_create.proofs.LeavingInput.{input_after}
use Rattle.pv_create.proofs.laws.the_steps_of_a_run_leave_what_lines_are_read_from.Goals as goal

pub returns : goal.returns
returns c = λ lines now t steps q tree there are free way gives input. input_after lines are free now t tree steps there way gives q input
