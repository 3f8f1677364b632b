use Rattle.pv_laws.proofs.Staged.{run_leaves_none}
use Rattle.pv_laws.proofs.laws.a_run_leaves_no_staging_name.Goals as goal

pub returns : goal.returns
returns c = λ lines now t are. run_leaves_none lines are now t
