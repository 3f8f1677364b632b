use Rattle.pv_overlap.proofs.FirstLaws.{one_overlaps}
use Rattle.pv_overlap.proofs.report_laws.the_overlaps_are_one_list.Goals as goal

pub returns : goal.returns
returns c = one_overlaps
