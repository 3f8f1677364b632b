use Rattle.pv_sysusers.proofs.FinishLaws.{plan_finishes}
use Rattle.pv_sysusers.proofs.laws.a_plan_among_new_files_gives_the_same_texts.Goals as goal

pub returns : goal.returns
returns c = λ requests taken files again day later texts allowed own small is part. plan_finishes requests allowed taken own files again day later small texts is part
