use Rattle.std.proofs.Common.{◌≡◌, take}
use Rattle.provision_run.specs.Messages.{messages_text}
use Rattle.provision_run.proofs.message.print_messages.Given as goal

abbrev pub invariant-loop-i : goal.invariant-loop-i
invariant-loop-i l = l.output.items ≡ messages_text (take l.i l.messages)
