use Rattle.pv_laws.proofs.AllPoints.{state_after, state_whole, plain_safe}
use Rattle.pv_laws.proofs.laws.each_path_by_itself_is_what_lines_leave.Goals as goal

pub returns : goal.returns
returns c = record {
  some = λ lines now k s t tree are none quiet agree. state_after lines (plain_safe lines are none) now s t tree quiet agree k;
  all = λ lines now s t tree are none quiet agree. state_whole lines (plain_safe lines are none) now s t tree quiet agree;
}
