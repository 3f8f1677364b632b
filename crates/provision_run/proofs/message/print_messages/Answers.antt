use Rattle.std.proofs.Common.{◌<◌, ◌++◌, length, arith, ap, ◌∙◌}
use Rattle.provision_run.specs.Messages.{message_at}
use Rattle.provision_run.proofs.MessageLaws.{messages_more}
use Rattle.provision_run.proofs.message.print_messages.Goals as goal

pub loop-i-preserved : goal.loop-i-preserved
loop-i-preserved c =
    let within : c.loop-i.i < length c.args.messages.now = omega arith in
    let one = messages_more c.args.messages.now c.loop-i.i within in
    c.in_ok-add_line.ensures ∙ ap (λ x. x ++ message_at c.args.messages.now c.loop-i.i) c.loop-i.invariant ∙ one
