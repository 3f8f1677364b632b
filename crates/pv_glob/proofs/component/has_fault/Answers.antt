use Rattle.std.proofs.Common.{◌∙◌, sym}
use Rattle.pv_glob.specs.Elements.{has_fault_at, element_length}
use Rattle.pv_glob.proofs.Places.{any_step, any_end, some_left, all_read, less_left}
use Rattle.pv_glob.proofs.component.has_fault.Goals as goal

pub loop-rest-preserved : goal.loop-rest-preserved
loop-rest-preserved c =
    any_step element_length (has_fault_at c.args.fault) c.loop-rest.rest.now c.behind-rest.result.now c.element_length.result (some_left c.loop-rest.rest.now c.is_empty.result c.is_empty.ensures c.loop-rest-test.true) c.element_length.ensures.positive c.element_length.ensures.value c.behind-rest.ensures
    (sym c.has_fault_at.ensures ∙ c.if-has_fault_at.false) ∙ c.loop-rest.invariant

pub has_fault_at-requires : goal.has_fault_at-requires
has_fault_at-requires c = some_left c.loop-rest.rest.now c.is_empty.result c.is_empty.ensures c.loop-rest-test.true

pub element_length-requires : goal.element_length-requires
element_length-requires c = some_left c.loop-rest.rest.now c.is_empty.result c.is_empty.ensures c.loop-rest-test.true

pub loop-rest-smaller : goal.loop-rest-smaller
loop-rest-smaller c = less_left c.loop-rest.rest.now c.behind-rest.result.now c.element_length.result (some_left c.loop-rest.rest.now c.is_empty.result c.is_empty.ensures c.loop-rest-test.true) c.element_length.ensures.positive c.behind-rest.ensures

pub returns : goal.returns
returns c = any_end element_length (has_fault_at c.args.fault) c.loop-rest.rest.now _ (all_read c.loop-rest.rest.now c.is_empty.result c.is_empty.ensures c.loop-rest-test.false) c.loop-rest.invariant
