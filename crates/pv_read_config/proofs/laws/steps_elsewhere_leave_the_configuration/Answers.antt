use Rattle.pv_read_config.proofs.InputLaws.{configured-after_all}
use Rattle.pv_read_config.proofs.laws.steps_elsewhere_leave_the_configuration.Goals as goal

pub returns : goal.returns
returns c = configured-after_all
