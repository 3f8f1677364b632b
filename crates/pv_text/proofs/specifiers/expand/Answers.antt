use Rattle.std.proofs.Common.{Err, ap, ◌∙◌}
use Rattle.std.proofs.lemmas.Result.{err_from_is_err_and}
use Rattle.pv_text.proofs.SpecifierLaws.{cut_turn, fails_so, faulty_turn, plain_turn, special_turn, whole_turn}
use Rattle.pv_text.proofs.specifiers.expand.Goals as goal

pub loop-rest-preserved-then-byte-ne37 : goal.loop-rest-preserved-then-byte-ne37
loop-rest-preserved-then-byte-ne37 c =
    rw c.in_ok-push.ensures.items (plain_turn c.args.tool c.args.facts.now c.args.text.now c.loop-rest.written.items c.loop-rest.rest.now c.in-len1-up.len_at_least c.loop-rest.invariant c.if-byte-ne37.true)

pub loop-rest-preserved : goal.loop-rest-preserved
loop-rest-preserved c =
    rw c.in_ok-extend_from_slice.ensures.items (special_turn c.args.tool c.args.facts.now c.args.text.now c.loop-rest.written.items c.loop-rest.rest.now c.in_ok-meaning_of.field-0.now c.in-len1-up.len_at_least c.loop-rest.invariant c.if-byte-ne37.false c.in-len1-up-after.len_at_least c.in_ok-meaning_of.ensures)

pub returns-in_err-meaning_of-clause-fault : goal.returns-in_err-meaning_of-clause-fault
returns-in_err-meaning_of-clause-fault c =
    let answered = err_from_is_err_and c.from_residual-in_err-meaning_of.result c.from_residual-in_err-meaning_of.ensures.1 in
    rw (answered.1 ∙ ap Err answered.2)
    (fails_so c.in_err-meaning_of.field-0.0 _
    (faulty_turn c.args.tool c.args.facts.now c.args.text.now c.loop-rest.written.items c.loop-rest.rest.now c.in_err-meaning_of.field-0.0 c.in-len1-up.len_at_least c.loop-rest.invariant c.if-byte-ne37.false c.in-len1-up-after.len_at_least c.in_err-meaning_of.ensures))

pub returns-in_default-after-clause-fault : goal.returns-in_default-after-clause-fault
returns-in_default-after-clause-fault c =
    cut_turn c.args.tool c.args.facts.now c.args.text.now c.loop-rest.written.items c.loop-rest.rest.now c.in-len1-up.len_at_least c.loop-rest.invariant c.if-byte-ne37.false c.in_default-after.len_below

pub returns-clause-ok : goal.returns-clause-ok
returns-clause-ok c = whole_turn c.args.tool c.args.facts.now c.args.text.now c.loop-rest.written.items c.loop-rest.rest.now c.in_default.len_below c.loop-rest.invariant
