use Rattle.pv_sysusers.proofs.SameLaws.{same_accounted}
use Rattle.pv_sysusers.proofs.run_laws.stamps_and_staging_names_do_not_count.Goals as goal

pub returns : goal.returns
returns c = λ requests now later t u plain day same. same_accounted t u same requests now later plain day
