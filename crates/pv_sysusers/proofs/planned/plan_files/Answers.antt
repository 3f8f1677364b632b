use Rattle.std.proofs.lemmas.Result.{IfOk-from_err}
use Rattle.pv_sysusers.proofs.PlanLaws.{memory_misses, memory_owes}
use Rattle.pv_sysusers.proofs.planned.plan_files.Goals as goal

pub returns-in_err-say_all-in-Ok-clause-texts : goal.returns-in_err-say_all-in-Ok-clause-texts
returns-in_err-say_all-in-Ok-clause-texts c = IfOk-from_err c.from_residual.result _ c.from_residual.ensures.0

pub returns-in_err-say_all-in-Ok-clause-lacking : goal.returns-in_err-say_all-in-Ok-clause-lacking
returns-in_err-say_all-in-Ok-clause-lacking c = memory_misses c.from_residual.result _ c.from_residual.ensures.1

pub returns-in_err-say_all-in-Ok-clause-new_messages : goal.returns-in_err-say_all-in-Ok-clause-new_messages
returns-in_err-say_all-in-Ok-clause-new_messages c = memory_owes c.from_residual.result _ c.from_residual.ensures.1

pub returns-in_err-say_all-in-Err-NoFreeId-clause-texts : goal.returns-in_err-say_all-in-Err-NoFreeId-clause-texts
returns-in_err-say_all-in-Err-NoFreeId-clause-texts c = IfOk-from_err c.from_residual-in_err-say_all-in-Err-NoFreeId.result _ c.from_residual-in_err-say_all-in-Err-NoFreeId.ensures.0

pub returns-in_err-say_all-in-Err-NoFreeId-clause-lacking : goal.returns-in_err-say_all-in-Err-NoFreeId-clause-lacking
returns-in_err-say_all-in-Err-NoFreeId-clause-lacking c = memory_misses c.from_residual-in_err-say_all-in-Err-NoFreeId.result _ c.from_residual-in_err-say_all-in-Err-NoFreeId.ensures.1

pub returns-in_err-say_all-in-Err-NoFreeId-clause-new_messages : goal.returns-in_err-say_all-in-Err-NoFreeId-clause-new_messages
returns-in_err-say_all-in-Err-NoFreeId-clause-new_messages c = memory_owes c.from_residual-in_err-say_all-in-Err-NoFreeId.result _ c.from_residual-in_err-say_all-in-Err-NoFreeId.ensures.1
