use Rattle.pv_read_config.proofs.InputLaws.{requested-same}
use Rattle.pv_read_config.proofs.laws.requests_depend_on_their_folders.Goals as goal

pub returns : goal.returns
returns c = λ t u facts words same plain. requested-same t u same facts words plain
