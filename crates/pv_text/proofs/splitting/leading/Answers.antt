use Rattle.std.proofs.Common.{[], ◌∷◌, ◌++◌, ◌≡◌, ◌+◌, ◌<◌, ◌≤◌, length, Ok, Err, sym, ap, ◌∙◌, arith}
use Rattle.std.proofs.lemmas.Result.{err_from_is_err_and}
use Rattle.std.proofs.lemmas.List.{length-append}
use Rattle.pv_text.specs.Fields.{next_place, field_at}
use Rattle.pv_text.proofs.FieldLaws.{field_turn, fails_turn, end_turn, checked_more}
use Rattle.pv_text.proofs.splitting.leading.Goals as goal

pub returns-then-start-line-clause-ok : goal.returns-then-start-line-clause-ok
returns-then-start-line-clause-ok c =
    let end : length c.args.line.now ≤ next_place c.args.line.now c.loop.at = omega (arith, c.next_place-start.ensures.value, c.if-start-line.true) in
    end_turn c.args.line.now c.loop.spans _ c.loop.at _ end c.loop.invariant.2

pub returns-in_err-span-clause-err : goal.returns-in_err-span-clause-err
returns-in_err-span-clause-err c =
    let p = err_from_is_err_and c.from_residual.result c.from_residual.ensures.1 in
    let below : next_place c.args.line.now c.loop.at < length c.args.line.now = omega (arith, c.next_place-start.ensures.value) in
    let is : field_at c.args.line.now (next_place c.args.line.now c.loop.at) ≡ Err c.in_err-span.field-0.0 = ap (field_at c.args.line.now) (sym c.next_place-start.ensures.value) ∙ sym c.in_err-span.ensures.value in
    rw (p.1, p.2) (fails_turn c.args.line.now c.loop.spans c.loop.counter c.loop.at _ _ c.loop-test.true below is c.loop.invariant.2)

pub loop-preserved : goal.loop-preserved
loop-preserved c =
    let below : next_place c.args.line.now c.loop.at < length c.args.line.now = omega (arith, c.next_place-start.ensures.value) in
    let is : field_at c.args.line.now (next_place c.args.line.now c.loop.at) ≡ Ok (c.in_ok-span.span, c.in_ok-span.after) = ap (field_at c.args.line.now) (sym c.next_place-start.ensures.value) ∙ sym c.in_ok-span.ensures.value in
    let long : length c.loop.spans ≤ c.loop.counter = c.loop.invariant.1 in
    let longer : length (c.loop.spans ++ c.in_ok-span.span ∷ []) ≤ c.loop.counter + 1 = simp length-append (omega (arith, long)) in (
      c.in_ok-span.ensures.within.1,
      rw c.push.ensures longer,
      rw c.push.ensures (field_turn c.args.line.now c.loop.spans c.loop.counter c.loop.at c.in_ok-span.span c.in_ok-span.after _ c.loop-test.true below is c.loop.invariant.2),
      rw c.push.ensures (checked_more c.args.line.now c.loop.spans c.in_ok-span.span c.loop.invariant.3 c.in_ok-span.ensures.within.0),
    )
