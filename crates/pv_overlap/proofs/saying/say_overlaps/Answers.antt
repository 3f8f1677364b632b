use Rattle.std.proofs.Common.{◌∙◌, ap, sym, append-nil, [], List, ℕ, unwrap_or, slice_get}
use Rattle.pv_overlap.specs.GivenMessages.{overlap_text, shared_text}
use Rattle.pv_overlap.proofs.LoopLaws.{messages_more, messages_upto, text_there}
use Rattle.pv_overlap.proofs.saying.say_overlaps.Goals as goal

pub loop-pair-preserved : goal.loop-pair-preserved
loop-pair-preserved c =
    let lines = c.args.lines.now in
    let first = c.text_at-first.ensures.text ∙ ap (λ (texts : List (List ℕ)). unwrap_or (slice_get texts c.pair-item.result.first) []) c.in_ok-texts.ensures ∙ text_there lines c.pair-item.result.first in
    let second = c.text_at-second.ensures.text ∙ ap (λ (texts : List (List ℕ)). unwrap_or (slice_get texts c.pair-item.result.second) []) c.in_ok-texts.ensures ∙ text_there lines c.pair-item.result.second in
    messages_more (overlap_text lines) c.args.pairs.now c.loop-pair.pair-index _ c.args.messages.now c.loop-pair.messages c.push.new.self c.deref.result.now c.loop-pair-test.true c.loop-pair.invariant c.in_ok-push.ensures.ok
    (c.deref.ensures.value ∙ c.in_ok-overlap_text.ensures.text ∙ (λ j. shared_text (first j) (second j) c.pair-item.result.path) ∙ ap (overlap_text lines) c.pair-item.is)

pub returns-in_err-texts-clause-part : goal.returns-in_err-texts-clause-part
returns-in_err-texts-clause-part c = (0, sym (append-nil c.args.messages.now))

pub returns-in_err-overlap_text-clause-part : goal.returns-in_err-overlap_text-clause-part
returns-in_err-overlap_text-clause-part c = messages_upto (overlap_text c.args.lines.now) c.args.pairs.now c.loop-pair.pair-index c.args.messages.now c.loop-pair.messages c.loop-pair.invariant

pub returns-in_err-push-clause-part : goal.returns-in_err-push-clause-part
returns-in_err-push-clause-part c = messages_upto (overlap_text c.args.lines.now) c.args.pairs.now c.loop-pair.pair-index c.args.messages.now c.push.new.self (c.in_err-push.ensures.err ∙ c.loop-pair.invariant)

pub returns-clause-part : goal.returns-clause-part
returns-clause-part c = messages_upto (overlap_text c.args.lines.now) c.args.pairs.now c.loop-pair.pair-index c.args.messages.now c.loop-pair.messages c.loop-pair.invariant
