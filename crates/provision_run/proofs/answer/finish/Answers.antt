use Rattle.provision_run.proofs.MessageLaws.{noted}
use Rattle.pv_image.specs.Spelling.{text_of}
use Rattle.provision_run.proofs.answer.finish.Goals as goal

pub returns-clause-again : goal.returns-clause-again
returns-clause-again c =
    rw (c.in_ok-add_image.ensures.text, c.in_ok-output.ensures.text)
    (noted c.args.messages.now (text_of c.args.facts.now c.args.tree.now.files) c.args.facts.now c.args.tree.now.files c.print_messages.ensures.lines c.in_ok-add_image.ensures.image)
