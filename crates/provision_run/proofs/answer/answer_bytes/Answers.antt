use Rattle.provision_run.proofs.AnswerLaws.{answers}
use Rattle.provision_run.proofs.answer.answer_bytes.Goals as goal

pub returns-in-Ok : goal.returns-in-Ok
returns-in-Ok c =
    answers c.args.options.now c.args.clock_micros c.args.bytes.items c.in-Ok.image.facts c.in-Ok.image.tree.files c.in-Ok.ensures.image c.requires.fits _ c.run_over.ensures
