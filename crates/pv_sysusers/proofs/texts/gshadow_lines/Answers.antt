use Rattle.std.proofs.lemmas.Result.{IfOk-from_err}
use Rattle.pv_sysusers.proofs.texts.gshadow_lines.Goals as goal

pub returns-in_err-new_group : goal.returns-in_err-new_group
returns-in_err-new_group c = IfOk-from_err c.from_residual.result _ c.from_residual.ensures.0

pub returns-in_err-push : goal.returns-in_err-push
returns-in_err-push c = IfOk-from_err c.from_residual-in_err-push.result _ c.from_residual-in_err-push.ensures.0
