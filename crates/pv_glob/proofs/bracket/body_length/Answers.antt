use Rattle.std.proofs.Common.{sym}
use Rattle.pv_glob.proofs.Places.{searching_start, searching_step, searching_end, searching_found, searching_within, some_left, all_read, less_left}
use Rattle.pv_glob.proofs.bracket.body_length.Goals as goal

pub loop-rest-init : goal.loop-rest-init
loop-rest-init c =
    searching_start c.args.text.now c.behind-rest.result.now c.in_ok-length.length (sym c.in_ok-length.ensures.value) c.behind-rest.ensures c.in_ok-length.ensures.within.1

pub loop-rest-preserved : goal.loop-rest-preserved
loop-rest-preserved c =
    searching_step c.args.text.now c.loop-rest.rest.now c.behind-rest-in-loop-rest.result.now c.loop-rest.length c.in_ok-token.token c.loop-rest.invariant (some_left c.loop-rest.rest.now c.is_empty-in-loop-rest.result c.is_empty-in-loop-rest.ensures c.loop-rest-test.true) c.if-rest-eq93.false
    (sym c.in_ok-token.ensures.value) c.in_ok-token.ensures.within.0 c.in_ok-token.ensures.within.1 c.behind-rest-in-loop-rest.ensures

pub returns-then-rest-eq93-clause-value : goal.returns-then-rest-eq93-clause-value
returns-then-rest-eq93-clause-value c = searching_found c.args.text.now c.loop-rest.rest.now c.loop-rest.length c.loop-rest.invariant (some_left c.loop-rest.rest.now c.is_empty-in-loop-rest.result c.is_empty-in-loop-rest.ensures c.loop-rest-test.true) c.if-rest-eq93.true

pub returns-then-rest-eq93-clause-within : goal.returns-then-rest-eq93-clause-within
returns-then-rest-eq93-clause-within c = searching_within c.args.text.now c.loop-rest.rest.now c.loop-rest.length c.loop-rest.invariant (some_left c.loop-rest.rest.now c.is_empty-in-loop-rest.result c.is_empty-in-loop-rest.ensures c.loop-rest-test.true)

pub token_length-requires-in-loop-rest : goal.token_length-requires-in-loop-rest
token_length-requires-in-loop-rest c = some_left c.loop-rest.rest.now c.is_empty-in-loop-rest.result c.is_empty-in-loop-rest.ensures c.loop-rest-test.true

pub loop-rest-smaller : goal.loop-rest-smaller
loop-rest-smaller c = less_left c.loop-rest.rest.now c.behind-rest-in-loop-rest.result.now c.in_ok-token.token (some_left c.loop-rest.rest.now c.is_empty-in-loop-rest.result c.is_empty-in-loop-rest.ensures c.loop-rest-test.true) c.in_ok-token.ensures.within.0 c.behind-rest-in-loop-rest.ensures

pub returns-clause-value : goal.returns-clause-value
returns-clause-value c = searching_end c.args.text.now c.loop-rest.rest.now c.loop-rest.length c.loop-rest.invariant (all_read c.loop-rest.rest.now c.is_empty-in-loop-rest.result c.is_empty-in-loop-rest.ensures c.loop-rest-test.false)
