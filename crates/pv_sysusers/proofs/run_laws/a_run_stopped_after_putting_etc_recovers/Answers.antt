use Rattle.pv_sysusers.proofs.SameLaws.{put_accounted}
use Rattle.pv_sysusers.proofs.run_laws.a_run_stopped_after_putting_etc_recovers.Goals as goal

pub returns : goal.returns
returns c = λ requests now later t u plain day some put. put_accounted t u put now later requests plain day some
