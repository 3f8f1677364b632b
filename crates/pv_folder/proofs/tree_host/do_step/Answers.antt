use Rattle.std.proofs.Common.{◌∙◌, ap}
use Rattle.pv_steps.specs.Trees.{places}
use Rattle.pv_steps.proofs.StepLaws.{at_after}
use Rattle.pv_folder.proofs.tree_host.do_step.Goals as goal

pub returns-in-Ok-clause-ok : goal.returns-in-Ok-clause-ok
returns-in-Ok-clause-ok c = ap places c.in-Ok.ensures.state ∙ at_after c.args.tree.now.files c.args.step 0
