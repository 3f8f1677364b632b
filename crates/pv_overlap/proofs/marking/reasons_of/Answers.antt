use Rattle.pv_overlap.proofs.OrderLaws.{exact_ok, ordered_ok}
use Rattle.pv_overlap.proofs.marking.reasons_of.Goals as goal

pub returns-clause-exact : goal.returns-clause-exact
returns-clause-exact c = exact_ok c.args.lines.now c.args.pairs.now c.in_ok-marks_of.field-0.items c.in_order-marks.result.items c.as_slice.result.now c.in_ok-marks_of.ensures c.in_order-marks.ensures.same c.as_slice.ensures.value c.listed.result c.listed.ensures

pub returns-clause-ordered : goal.returns-clause-ordered
returns-clause-ordered c = ordered_ok c.args.lines.now c.args.pairs.now c.in_ok-marks_of.field-0.items c.in_order-marks.result.items c.as_slice.result.now c.in_ok-marks_of.ensures c.in_order-marks.ensures.same c.as_slice.ensures.value c.in_order-marks.ensures.sorted c.listed.result c.listed.ensures
