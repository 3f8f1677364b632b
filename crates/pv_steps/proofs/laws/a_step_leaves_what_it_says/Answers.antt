use Rattle.pv_steps.proofs.StepLaws.{at_after}
use Rattle.pv_steps.proofs.laws.a_step_leaves_what_it_says.Goals as goal

pub returns : goal.returns
returns c = at_after
