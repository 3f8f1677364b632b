use Rattle.std.proofs.Common.{rules}
use Rattle.pv_glob.specs.Elements.{element_length}
use Rattle.pv_glob.proofs.BraceLaws.{read_on}
use Rattle.pv_glob.proofs.Places.{places_step, some_left, less_left}
use Rattle.pv_glob.proofs.braces.expansions_within.Goals as goal

pub loop-rest-preserved : goal.loop-rest-preserved
loop-rest-preserved c =
    let step = places_step element_length c.loop-rest.rest.now (some_left c.loop-rest.rest.now c.is_empty.result c.is_empty.ensures c.loop-rest-test.true) (rw c.element_length.ensures.value at c.element_length.ensures.positive) in
    read_on c.args.component.now c.loop-rest.rest.now c.behind-rest.result.now c.element_length.result c.loop-rest.reading c.in-Some.next c.element_length.ensures.value c.behind-rest.ensures step (search rules) c.loop-rest.invariant

pub read-requires : goal.read-requires
read-requires c = some_left c.loop-rest.rest.now c.is_empty.result c.is_empty.ensures c.loop-rest-test.true

pub element_length-requires : goal.element_length-requires
element_length-requires c = some_left c.loop-rest.rest.now c.is_empty.result c.is_empty.ensures c.loop-rest-test.true

pub loop-rest-smaller : goal.loop-rest-smaller
loop-rest-smaller c = less_left c.loop-rest.rest.now c.behind-rest.result.now c.element_length.result (some_left c.loop-rest.rest.now c.is_empty.result c.is_empty.ensures c.loop-rest-test.true) c.element_length.ensures.positive c.behind-rest.ensures
