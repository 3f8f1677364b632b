use Rattle.pv_table.proofs.QuietLaws.{quiet_at_any_moment}
use Rattle.pv_table.proofs.laws.refusing_no_line_does_not_depend_on_the_moment.Goals as goal

pub returns : goal.returns
returns c = quiet_at_any_moment
