use Rattle.std.proofs.Common.{◌∙◌, sym}
use Rattle.pv_glob.specs.Elements.{is_bad_class, item_length}
use Rattle.pv_glob.proofs.Places.{any_step, any_end, some_left, all_read, less_left}
use Rattle.pv_glob.proofs.bracket.has_bad_class.Goals as goal

pub loop-rest-preserved : goal.loop-rest-preserved
loop-rest-preserved c =
    any_step item_length is_bad_class c.loop-rest.rest.now c.behind-rest.result.now c.item_length.result (some_left c.loop-rest.rest.now c.is_empty.result c.is_empty.ensures c.loop-rest-test.true) c.item_length.ensures.positive c.item_length.ensures.value c.behind-rest.ensures
    (sym c.is_bad_class.ensures ∙ c.if-is_bad_class.false) ∙ c.loop-rest.invariant

pub is_bad_class-requires : goal.is_bad_class-requires
is_bad_class-requires c = some_left c.loop-rest.rest.now c.is_empty.result c.is_empty.ensures c.loop-rest-test.true

pub item_length-requires : goal.item_length-requires
item_length-requires c = some_left c.loop-rest.rest.now c.is_empty.result c.is_empty.ensures c.loop-rest-test.true

pub loop-rest-smaller : goal.loop-rest-smaller
loop-rest-smaller c = less_left c.loop-rest.rest.now c.behind-rest.result.now c.item_length.result (some_left c.loop-rest.rest.now c.is_empty.result c.is_empty.ensures c.loop-rest-test.true) c.item_length.ensures.positive c.behind-rest.ensures

pub returns : goal.returns
returns c = any_end item_length is_bad_class c.loop-rest.rest.now _ (all_read c.loop-rest.rest.now c.is_empty.result c.is_empty.ensures c.loop-rest-test.false) c.loop-rest.invariant
