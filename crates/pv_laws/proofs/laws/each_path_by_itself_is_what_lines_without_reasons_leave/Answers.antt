use Rattle.pv_laws.proofs.AllPoints.{state_after, state_whole, all_safe}
use Rattle.pv_laws.proofs.laws.each_path_by_itself_is_what_lines_without_reasons_leave.Goals as goal

pub returns : goal.returns
returns c = record {
  some = λ lines now k s t tree are repeatable quiet agree. state_after lines (all_safe lines are repeatable) now s t tree quiet agree k;
  all = λ lines now s t tree are repeatable quiet agree. state_whole lines (all_safe lines are repeatable) now s t tree quiet agree;
}
