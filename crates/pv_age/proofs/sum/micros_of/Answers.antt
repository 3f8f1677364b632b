-- The first pair of the rest, with the total so far.
use Rattle.std.proofs.Common.{◌∙◌, ◌<◌, length, sym, rules}
use Rattle.std.proofs.lemmas.Result.{err_from_is_err_and}
use Rattle.pv_age.proofs.SumLaws.{pair_fault, some_left, sum_fault, sum_step}
use Rattle.pv_age.proofs.sum.micros_of.Goals as goal

pub returns-in_err-pair : goal.returns-in_err-pair
returns-in_err-pair c =
    let some : 0 < length c.loop-rest.rest.now = some_left _ _ c.is_empty-in-loop-rest.ensures (search rules) in
    let p = err_from_is_err_and c.from_residual.result c.from_residual.ensures.1 in
    rw (p.1, p.2) (sym (pair_fault c.loop-rest.total c.loop-rest.rest.now c.in_err-pair.field-0.0 some c.in_err-pair.ensures.value) ∙ c.loop-rest.invariant)

pub returns-in_err-total : goal.returns-in_err-total
returns-in_err-total c =
    let some : 0 < length c.loop-rest.rest.now = some_left _ _ c.is_empty-in-loop-rest.ensures (search rules) in
    let p = err_from_is_err_and c.from_residual-in_err-total.result c.from_residual-in_err-total.ensures.1 in
    rw (p.1, p.2) (sym (sum_fault c.loop-rest.total c.in_ok-pair.pair.micros c.loop-rest.rest.now c.in_err-total.field-0.0 some c.in_ok-pair.ensures.value (sym c.in_err-total.ensures)) ∙ c.loop-rest.invariant)

pub loop-rest-preserved : goal.loop-rest-preserved
loop-rest-preserved c =
    let some : 0 < length c.loop-rest.rest.now = some_left _ _ c.is_empty-in-loop-rest.ensures (search rules) in
    rw (c.behind-rest.ensures, c.in_ok-pair.ensures.length)
    (sym (sum_step c.loop-rest.total c.in_ok-pair.pair.micros c.in_ok-total.total c.loop-rest.rest.now some
    (search rules) c.in_ok-pair.ensures.value (sym c.in_ok-total.ensures)) ∙ c.loop-rest.invariant)
