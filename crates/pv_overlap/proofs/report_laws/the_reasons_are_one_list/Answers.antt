use Rattle.pv_overlap.proofs.ReportLaws.{one_report}
use Rattle.pv_overlap.proofs.report_laws.the_reasons_are_one_list.Goals as goal

pub returns : goal.returns
returns c = one_report
