use Rattle.std.proofs.Common.{◌+◌, ◌<◌, ◌≤◌, ℕ, arith, refl, []}
use Rattle.std.proofs.lemmas.Result.{err_from_is_err_and}
use Rattle.std.specs.FinMap as fin
use Rattle.pv_image.specs.Images.{Fact, InFacts, cut_off}
use Rattle.pv_image.proofs.Stages.{cut_length, facts_more, facts_on, fails_later, last_more, no_fact_next, none_last, none_leads, none_read, refuses_fails}
use Rattle.std.proofs.lemmas.Result.{IfOk-from_err}
use Rattle.pv_image.proofs.reader.read_facts.Goals as goal

pub loop-text-init : goal.loop-text-init
loop-text-init c =
    let facts = c.new-facts.result in
    let bytes = c.args.left.bytes.now in
    record {
      leads = λ version. none_leads facts c.new-facts.ensures version c.args.left.number bytes;
      facts = none_read facts c.new-facts.ensures bytes;
      last = none_last facts c.new-facts.ensures;
      small = c.requires;
    }

pub returns-in_default-2-clause-next : goal.returns-in_default-2-clause-next
returns-in_default-2-clause-next c =
    no_fact_next c.loop-text.rest.now c.in-Some.text.now c.in-Some.after.now c.in-Some.ensures.some (rw c.in_default-2.is at c.in_ok-letter.ensures)

pub returns-in_err-add_fact-clause-err : goal.returns-in_err-add_fact-clause-err
returns-in_err-add_fact-clause-err c = λ version.
    let p = err_from_is_err_and c.from_residual-in_err-add_fact.result c.from_residual-in_err-add_fact.ensures.1 in
    let stage = InFacts version (fin.entries c.loop-text.facts) in
    rw (p.1, p.2) (fails_later c.args.left.number (InFacts version []) c.args.left.bytes.now c.loop-text.number stage c.loop-text.rest.now c.in_err-add_fact.field-0.0 (c.loop-text.invariant.leads version)
    (refuses_fails c.loop-text.number stage c.loop-text.rest.now c.in-Some.text.now c.in-Some.after.now (Fact (c.in-Some-2.letter, c.in-Some-2.value)) c.in_err-add_fact.field-0.0 c.in-Some.ensures.some
    (rw c.in-Some-2.is at c.in_ok-letter.ensures) (c.in_err-add_fact.ensures.refused version)))

pub loop-text-preserved : goal.loop-text-preserved
loop-text-preserved c =
    let old = c.loop-text.facts in
    let new = c.add_fact.new.facts in
    let text = c.in-Some.text.now in
    let rest = c.loop-text.rest.now in
    let after = c.in-Some.after.now in
    let cut = c.in-Some.ensures.some in
    let read = rw c.in-Some-2.is at c.in_ok-letter.ensures in
    record {
      leads = λ version. facts_on version c.args.left.number (InFacts version []) c.args.left.bytes.now c.loop-text.number old new (c.in-Some-2.letter, c.in-Some-2.value) text rest after (c.loop-text.invariant.leads version) cut read (c.in_ok-add_fact.ensures.judged version) c.in_ok-add_fact.ensures.added;
      facts = facts_more c.args.left.bytes.now old new (c.in-Some-2.letter, c.in-Some-2.value) rest text after c.loop-text.invariant.facts c.in_ok-add_fact.ensures.added read.0 cut read.1;
      last = last_more old new (c.in-Some-2.letter, c.in-Some-2.value) c.in_ok-add_fact.ensures.added;
      small = let shorter = cut_length rest text after cut in let so_far = c.loop-text.invariant.small in omega arith;
    }

pub returns-clause-err : goal.returns-clause-err
returns-clause-err c = λ version. c.loop-text.invariant.leads version _ (cut_off c.in_default.ensures.none refl)

less : (m n : ℕ) → m + 1 ≤ n → m < n
less m n h = omega arith

pub loop-text-smaller : goal.loop-text-smaller
loop-text-smaller c = less _ _ (cut_length c.loop-text.rest.now c.in-Some.text.now c.in-Some.after.now c.in-Some.ensures.some)

pub returns-in_err-letter-clause-leads : goal.returns-in_err-letter-clause-leads
returns-in_err-letter-clause-leads c = λ version. IfOk-from_err c.from_residual.result _ c.from_residual.ensures.0

pub returns-in_err-letter-clause-text : goal.returns-in_err-letter-clause-text
returns-in_err-letter-clause-text c = IfOk-from_err c.from_residual.result _ c.from_residual.ensures.0

pub returns-in_err-letter-clause-next : goal.returns-in_err-letter-clause-next
returns-in_err-letter-clause-next c = IfOk-from_err c.from_residual.result _ c.from_residual.ensures.0

pub returns-in_err-letter-clause-small : goal.returns-in_err-letter-clause-small
returns-in_err-letter-clause-small c = IfOk-from_err c.from_residual.result _ c.from_residual.ensures.0

pub returns-in_err-add_fact-clause-leads : goal.returns-in_err-add_fact-clause-leads
returns-in_err-add_fact-clause-leads c = λ version. IfOk-from_err c.from_residual-in_err-add_fact.result _ c.from_residual-in_err-add_fact.ensures.0

pub returns-in_err-add_fact-clause-text : goal.returns-in_err-add_fact-clause-text
returns-in_err-add_fact-clause-text c = IfOk-from_err c.from_residual-in_err-add_fact.result _ c.from_residual-in_err-add_fact.ensures.0

pub returns-in_err-add_fact-clause-next : goal.returns-in_err-add_fact-clause-next
returns-in_err-add_fact-clause-next c = IfOk-from_err c.from_residual-in_err-add_fact.result _ c.from_residual-in_err-add_fact.ensures.0

pub returns-in_err-add_fact-clause-small : goal.returns-in_err-add_fact-clause-small
returns-in_err-add_fact-clause-small c = IfOk-from_err c.from_residual-in_err-add_fact.result _ c.from_residual-in_err-add_fact.ensures.0
