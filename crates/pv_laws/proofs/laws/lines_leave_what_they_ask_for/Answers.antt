use Rattle.pv_laws.proofs.Stops.{created_point}
use Rattle.pv_laws.proofs.laws.lines_leave_what_they_ask_for.Goals as goal

pub returns : goal.returns
returns c = λ lines now t q tree are none quiet plain. created_point lines are none now t tree quiet q plain
