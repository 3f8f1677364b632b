use Rattle.provision_run.specs.OverTree.{HasRun}
use Rattle.provision_run.specs.Words.{moment_of}
use Rattle.std.proofs.Common.{subst, ℕ}
use Rattle.provision_run.proofs.AnswerLaws.{answered}
use Rattle.provision_run.proofs.answer.run_over.Goals as goal

pub returns-in-Ok : goal.returns-in-Ok
returns-in-Ok c =
    answered c.args.options.now c.args.image.facts (moment_of c.args.options.now c.args.clock_micros) c.args.image.tree.files c.run_limited.new.tree.files c.in-Ok.outcome c.run_limited.new.messages
    (subst (λ (m : ℕ). HasRun c.args.options.now c.args.image.facts m c.args.image.tree.files c.in-Ok.outcome c.run_limited.new.messages c.run_limited.new.tree.files) c.unwrap_or-moment.ensures c.in-Ok.ensures.run.run)
    c.finish.result c.finish.ensures.outcome c.finish.ensures.text c.finish.ensures.again
