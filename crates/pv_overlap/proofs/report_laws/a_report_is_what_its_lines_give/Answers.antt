use Rattle.pv_overlap.proofs.FirstLaws.{one_message_said}
use Rattle.pv_overlap.proofs.report_laws.a_report_is_what_its_lines_give.Goals as goal

pub returns : goal.returns
returns c = one_message_said
