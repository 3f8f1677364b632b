use Rattle.pv_read_config.proofs.InputLaws.{configured-same}
use Rattle.pv_read_config.proofs.laws.a_configuration_depends_on_input_paths.Goals as goal

pub returns : goal.returns
returns c = λ t u facts words same plain. configured-same t u same facts words plain
