use Rattle.pv_overlap.proofs.ReportLaws.{made_overlaps, made_reasons, none_listed}
use Rattle.pv_overlap.proofs.reporting.report.Goals as goal

pub returns-clause-overlaps : goal.returns-clause-overlaps
returns-clause-overlaps c =
    made_overlaps c.args.lines.now c.as_slice.result.now c.as_slice.ensures.value c.as_slice.ensures.whole c.in_ok-reaches.reaches.items c.as_slice-2.result.now c.in_ok-reaches.ensures c.as_slice-2.ensures.value c.len-2.result c.len-2.ensures
    c.in_ok-pairs.pairs c.in_ok-pairs.ensures.listed c.in_ok-pairs.ensures.all c.in_ok-pairs.ensures.ordered c.len-3.result c.len-3.ensures c.in_ok-overlaps_of.field-0 c.in_ok-overlaps_of.ensures

pub returns-clause-reasons : goal.returns-clause-reasons
returns-clause-reasons c =
    made_reasons c.args.lines.now c.as_slice.result.now c.as_slice.ensures.value c.as_slice.ensures.whole c.in_ok-reaches.reaches.items c.as_slice-2.result.now c.in_ok-reaches.ensures c.as_slice-2.ensures.value c.len-2.result c.len-2.ensures
    c.in_ok-pairs.pairs c.in_ok-pairs.ensures.listed c.in_ok-pairs.ensures.all c.as_slice-3.result.now c.as_slice-3.ensures.value c.as_slice-4.result.now c.as_slice-4.ensures c.in_ok-unrepeatable.unrepeatable c.in_ok-unrepeatable.ensures.exact c.in_ok-unrepeatable.ensures.ordered

pub returns-clause-verdict : goal.returns-clause-verdict
returns-clause-verdict c = none_listed c.args.lines.now c.in_ok-unrepeatable.unrepeatable (returns-clause-reasons c)
