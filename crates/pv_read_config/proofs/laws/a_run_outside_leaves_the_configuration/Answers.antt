use Rattle.pv_read_config.proofs.InputLaws.{configured-outside}
use Rattle.pv_read_config.proofs.laws.a_run_outside_leaves_the_configuration.Goals as goal

pub returns : goal.returns
returns c = configured-outside
