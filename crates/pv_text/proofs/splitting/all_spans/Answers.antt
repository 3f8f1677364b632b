use Rattle.std.proofs.Common.{◌≡◌, ◌<◌, ◌≤◌, length, Ok, Err, sym, ap, ◌∙◌, arith}
use Rattle.std.proofs.lemmas.Result.{err_from_is_err_and}
use Rattle.std.proofs.lemmas.List.{append-nil}
use Rattle.pv_text.specs.Fields.{after_spans, next_place, argument_at}
use Rattle.pv_text.proofs.FieldLaws.{none_left, argument_left, argument_fails, checked_more}
use Rattle.pv_text.proofs.splitting.all_spans.Goals as goal

pub returns-then-start-line-clause-ok : goal.returns-then-start-line-clause-ok
returns-then-start-line-clause-ok c =
    let end : length c.args.line.now ≤ next_place c.args.line.now c.in_ok-spans.at = omega (arith, c.next_place-start.ensures.value, c.if-start-line.true) in
    sym c.in_ok-spans.ensures.ok ∙ ap (after_spans c.in_ok-spans.spans) (none_left 0 c.args.line.now c.in_ok-spans.at end) ∙ ap Ok (append-nil c.in_ok-spans.spans)

pub returns-in_err-argument_at-clause-err : goal.returns-in_err-argument_at-clause-err
returns-in_err-argument_at-clause-err c =
    let p = err_from_is_err_and c.from_residual-in_err-argument_at.result c.from_residual-in_err-argument_at.ensures.1 in
    let below : next_place c.args.line.now c.in_ok-spans.at < length c.args.line.now = omega (arith, c.next_place-start.ensures.value) in
    let is : argument_at c.args.line.now (next_place c.args.line.now c.in_ok-spans.at) ≡ Err c.in_err-argument_at.field-0.0 = ap (argument_at c.args.line.now) (sym c.next_place-start.ensures.value) ∙ sym c.in_err-argument_at.ensures.value in
    rw (p.1, p.2) (sym c.in_ok-spans.ensures.ok ∙ ap (after_spans c.in_ok-spans.spans) (argument_fails c.args.line.now c.in_ok-spans.at _ below is))

pub returns-clause-ok : goal.returns-clause-ok
returns-clause-ok c =
    let below : next_place c.args.line.now c.in_ok-spans.at < length c.args.line.now = omega (arith, c.next_place-start.ensures.value) in
    let is : argument_at c.args.line.now (next_place c.args.line.now c.in_ok-spans.at) ≡ Ok c.in_ok-argument_at.field-0 = ap (argument_at c.args.line.now) (sym c.next_place-start.ensures.value) ∙ sym c.in_ok-argument_at.ensures.value in
    rw c.push.ensures (sym c.in_ok-spans.ensures.ok ∙ ap (after_spans c.in_ok-spans.spans) (argument_left c.args.line.now c.in_ok-spans.at c.in_ok-argument_at.field-0 below is))

pub returns-clause-checked : goal.returns-clause-checked
returns-clause-checked c = rw c.push.ensures (checked_more c.args.line.now c.in_ok-spans.spans c.in_ok-argument_at.field-0 c.in_ok-spans.ensures.within.2 c.in_ok-argument_at.ensures.checked)
