use Rattle.std.proofs.Common.{◌∙◌}
use Rattle.pv_overlap.specs.GivenMessages.{unrepeatable_text}
use Rattle.pv_overlap.proofs.LoopLaws.{messages_more, messages_upto}
use Rattle.pv_overlap.proofs.saying.say_reasons.Goals as goal

pub loop-found-preserved : goal.loop-found-preserved
loop-found-preserved c =
    messages_more (unrepeatable_text c.args.lines.now) c.args.list.now c.loop-found.found-index _ c.args.messages.now c.loop-found.messages c.push.new.self c.deref.result.now c.loop-found-test.true c.loop-found.invariant c.in_ok-push.ensures.ok (c.deref.ensures.value ∙ c.in_ok-unrepeatable_text.ensures.text)

pub returns-in_err-unrepeatable_text-clause-part : goal.returns-in_err-unrepeatable_text-clause-part
returns-in_err-unrepeatable_text-clause-part c = messages_upto (unrepeatable_text c.args.lines.now) c.args.list.now c.loop-found.found-index c.args.messages.now c.loop-found.messages c.loop-found.invariant

pub returns-in_err-push-clause-part : goal.returns-in_err-push-clause-part
returns-in_err-push-clause-part c = messages_upto (unrepeatable_text c.args.lines.now) c.args.list.now c.loop-found.found-index c.args.messages.now c.push.new.self (c.in_err-push.ensures.err ∙ c.loop-found.invariant)

pub returns-clause-part : goal.returns-clause-part
returns-clause-part c = messages_upto (unrepeatable_text c.args.lines.now) c.args.list.now c.loop-found.found-index c.args.messages.now c.loop-found.messages c.loop-found.invariant
