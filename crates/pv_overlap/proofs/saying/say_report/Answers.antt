use Rattle.std.proofs.Common.{◌∙◌, ◌++◌, ◌∷◌, [], ℕ, List, map, ap, append_assoc, subst}
use Rattle.pv_text.specs.GivenMessages.{MessagesPart}
use Rattle.pv_text.proofs.MessagesLaws.{messages_first, messages_then, messages_whole}
use Rattle.pv_overlap.specs.GivenMessages.{overlap_text, unrepeatable_text, verdict}
use Rattle.pv_overlap.proofs.ReportLaws.{verdict_message}
use Rattle.pv_overlap.proofs.saying.say_report.Goals as goal

pub returns-in_err-say_overlaps-clause-part : goal.returns-in_err-say_overlaps-clause-part
returns-in_err-say_overlaps-clause-part c =
    let overlaps = map (overlap_text c.args.lines.now) c.args.report.now.pairs in
    let reasons = map (unrepeatable_text c.args.lines.now) c.args.report.now.unrepeatable in
    let last = verdict c.args.report.now.unrepeatable ∷ [] in
    messages_first (overlaps ++ reasons) last c.args.messages.now c.say_overlaps.new.messages
    (messages_first overlaps reasons c.args.messages.now c.say_overlaps.new.messages
    (subst (λ (ms : List (List ℕ)). MessagesPart ms c.args.messages.now c.say_overlaps.new.messages) (λ i. map (overlap_text (c.as_slice.ensures.value i)) (c.as_slice-2.ensures i)) c.say_overlaps.ensures.part))

pub returns-in_err-say_reasons-clause-part : goal.returns-in_err-say_reasons-clause-part
returns-in_err-say_reasons-clause-part c =
    let overlaps = map (overlap_text c.args.lines.now) c.args.report.now.pairs in
    let reasons = map (unrepeatable_text c.args.lines.now) c.args.report.now.unrepeatable in
    let last = verdict c.args.report.now.unrepeatable ∷ [] in
    messages_first (overlaps ++ reasons) last c.args.messages.now c.say_reasons.new.messages
    (messages_then overlaps reasons c.args.messages.now c.say_overlaps.new.messages c.say_reasons.new.messages
    (c.in_ok-say_overlaps.ensures.new_messages ∙ (λ i. c.args.messages.now ++ map (overlap_text (c.as_slice.ensures.value i)) (c.as_slice-2.ensures i)))
    (subst (λ (ms : List (List ℕ)). MessagesPart ms c.say_overlaps.new.messages c.say_reasons.new.messages) (λ i. map (unrepeatable_text (c.as_slice-3.ensures.value i)) (c.as_slice-list.ensures i)) c.say_reasons.ensures.part))

pub returns-in_err-push-clause-part : goal.returns-in_err-push-clause-part
returns-in_err-push-clause-part c =
    let overlaps = map (overlap_text c.args.lines.now) c.args.report.now.pairs in
    let reasons = map (unrepeatable_text c.args.lines.now) c.args.report.now.unrepeatable in
    let last = verdict c.args.report.now.unrepeatable ∷ [] in
    messages_first (overlaps ++ reasons) last c.args.messages.now c.push.new.self
    (messages_then overlaps reasons c.args.messages.now c.say_overlaps.new.messages c.push.new.self
    (c.in_ok-say_overlaps.ensures.new_messages ∙ (λ i. c.args.messages.now ++ map (overlap_text (c.as_slice.ensures.value i)) (c.as_slice-2.ensures i)))
    (messages_whole reasons c.say_overlaps.new.messages c.push.new.self (
    c.in_err-push.ensures.err ∙ c.in_ok-say_reasons.ensures.new_messages ∙ (λ i. c.say_overlaps.new.messages ++ map (unrepeatable_text (c.as_slice-3.ensures.value i)) (c.as_slice-list.ensures i)))))

pub returns-clause-part : goal.returns-clause-part
returns-clause-part c =
    let overlaps = map (overlap_text c.args.lines.now) c.args.report.now.pairs in
    let reasons = map (unrepeatable_text c.args.lines.now) c.args.report.now.unrepeatable in
    let last = verdict c.args.report.now.unrepeatable ∷ [] in
    messages_then (overlaps ++ reasons) last c.args.messages.now c.say_reasons.new.messages c.push.new.self
    (c.in_ok-say_reasons.ensures.new_messages ∙ (λ i. c.say_overlaps.new.messages ++ map (unrepeatable_text (c.as_slice-3.ensures.value i)) (c.as_slice-list.ensures i))
    ∙ ap (λ (ms : List (List ℕ)). ms ++ reasons) (c.in_ok-say_overlaps.ensures.new_messages ∙ (λ i. c.args.messages.now ++ map (overlap_text (c.as_slice.ensures.value i)) (c.as_slice-2.ensures i)))
    ∙ append_assoc c.args.messages.now overlaps reasons)
    (messages_whole last c.say_reasons.new.messages c.push.new.self (
    c.in_ok-push.ensures.ok ∙ ap (λ (t : List ℕ). c.say_reasons.new.messages ++ t ∷ []) (c.verdict.ensures.text ∙ ap verdict c.as_slice-list.ensures)))

pub returns-clause-verdict : goal.returns-clause-verdict
returns-clause-verdict c = λ lists.
    verdict_message c.args.lines.now c.args.report.now.unrepeatable c.say_reasons.new.messages c.push.new.self
    (c.in_ok-push.ensures.ok ∙ ap (λ (t : List ℕ). c.say_reasons.new.messages ++ t ∷ []) (c.verdict.ensures.text ∙ ap verdict c.as_slice-list.ensures)) lists
