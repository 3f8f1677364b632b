use Rattle.provision_run.proofs.GeneratedLaws.{stated}
use Rattle.provision_run.proofs.generated.run_over_lines.Goals as goal

pub returns : goal.returns
returns c =
    stated c.args.lines c.args.tree.files c.create.new.tree.files c.in_ok-before.before c.in_ok-after.after c.len.result c.in_ok-messages.messages c.in_ok-report.report c.in_ok-text.text.items
    c.in_ok-before.ensures c.in_ok-after.ensures c.in_ok-messages.ensures.tree c.len.ensures.count c.in_ok-messages.ensures.new_messages
    c.in_ok-report.ensures.overlaps c.in_ok-report.ensures.reasons c.in_ok-report.ensures.verdict c.in_ok-text.ensures
