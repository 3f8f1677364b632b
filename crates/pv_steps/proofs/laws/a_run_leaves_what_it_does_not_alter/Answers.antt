use Rattle.pv_steps.proofs.ContentLaws.{content-after_all}
use Rattle.pv_steps.proofs.laws.a_run_leaves_what_it_does_not_alter.Goals as goal

pub returns : goal.returns
returns c = content-after_all
