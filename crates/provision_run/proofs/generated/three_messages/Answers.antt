use Rattle.std.proofs.Common.{ap, List, ℕ, ◌++◌, length, ◌∙◌}
use Rattle.pv_overlap.specs.GivenMessages.{verdict}
use Rattle.provision_run.specs.Generated.{created_text, generated_text, overlaps_text}
use Rattle.provision_run.specs.Messages.{message}
use Rattle.provision_run.proofs.GeneratedLaws.{messages_of}
use Rattle.provision_run.proofs.generated.three_messages.Goals as goal

pub returns : goal.returns
returns c =
    messages_of (generated_text c.args.lines c.args.before) (created_text c.args.after c.args.new_messages) (overlaps_text (length c.args.report.now.pairs) (verdict c.args.report.now.unrepeatable))
    c.deref.result.now c.deref-2.result.now c.deref-3.result.now c.add_message.new.output.items c.add_message-2.new.output.items c.add_message-3.new.output.items
    (c.deref.ensures.value ∙ c.in_ok-generated_text.ensures) (c.deref-2.ensures.value ∙ c.in_ok-created_text.ensures) (c.deref-3.ensures.value ∙ c.in_ok-overlaps_text.ensures)
    (c.in_ok-add_message.ensures ∙ ap (λ (items : List ℕ). items ++ message c.deref.result.now) c.new-output.ensures.items) c.in_ok-add_message-2.ensures c.in_ok-add_message-3.ensures
