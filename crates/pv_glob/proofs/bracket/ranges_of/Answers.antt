use Rattle.pv_glob.specs.Elements.{item_length, item_ranges}
use Rattle.pv_glob.proofs.Places.{flat_step, flat_end, some_left, all_read, less_left}
use Rattle.pv_glob.proofs.bracket.ranges_of.Goals as goal

pub loop-rest-preserved : goal.loop-rest-preserved
loop-rest-preserved c =
    flat_step item_length item_ranges c.loop-rest.ranges c.add_item.new.ranges _ c.loop-rest.rest.now c.behind-rest.result.now c.item_length.result (some_left c.loop-rest.rest.now c.is_empty.result c.is_empty.ensures c.loop-rest-test.true) c.item_length.ensures.positive
    c.item_length.ensures.value c.behind-rest.ensures c.in_ok-add_item.ensures c.loop-rest.invariant

pub add_item-requires : goal.add_item-requires
add_item-requires c = some_left c.loop-rest.rest.now c.is_empty.result c.is_empty.ensures c.loop-rest-test.true

pub item_length-requires : goal.item_length-requires
item_length-requires c = some_left c.loop-rest.rest.now c.is_empty.result c.is_empty.ensures c.loop-rest-test.true

pub loop-rest-smaller : goal.loop-rest-smaller
loop-rest-smaller c =
    less_left c.loop-rest.rest.now c.behind-rest.result.now c.item_length.result (some_left c.loop-rest.rest.now c.is_empty.result c.is_empty.ensures c.loop-rest-test.true) c.item_length.ensures.positive c.behind-rest.ensures

pub returns : goal.returns
returns c = flat_end item_length item_ranges c.loop-rest.ranges _ c.loop-rest.rest.now (all_read c.loop-rest.rest.now c.is_empty.result c.is_empty.ensures c.loop-rest-test.false) c.loop-rest.invariant
