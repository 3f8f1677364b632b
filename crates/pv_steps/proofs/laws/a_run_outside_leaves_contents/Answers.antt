use Rattle.pv_steps.proofs.LeavingLaws.{content-outside}
use Rattle.pv_steps.proofs.laws.a_run_outside_leaves_contents.Goals as goal

pub returns : goal.returns
returns c = content-outside
