use Rattle.pv_sysusers.proofs.SameLaws.{same_messages}
use Rattle.pv_sysusers.proofs.run_laws.what_is_said_does_not_depend_on_stamps.Goals as goal

pub returns : goal.returns
returns c = λ requests now later t u plain day same. same_messages t u same requests now later plain day
