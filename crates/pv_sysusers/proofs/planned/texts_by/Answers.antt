use Rattle.std.proofs.lemmas.Result.{IfOk-from_err}
use Rattle.pv_sysusers.proofs.planned.texts_by.Goals as goal

pub returns-in_err-passwd_text : goal.returns-in_err-passwd_text
returns-in_err-passwd_text c = IfOk-from_err c.from_residual.result _ c.from_residual.ensures.0

pub returns-in_err-group_text : goal.returns-in_err-group_text
returns-in_err-group_text c = IfOk-from_err c.from_residual-in_err-group_text.result _ c.from_residual-in_err-group_text.ensures.0

pub returns-in_err-shadow_text : goal.returns-in_err-shadow_text
returns-in_err-shadow_text c = IfOk-from_err c.from_residual-in_err-shadow_text.result _ c.from_residual-in_err-shadow_text.ensures.0

pub returns-in_err-gshadow_of : goal.returns-in_err-gshadow_of
returns-in_err-gshadow_of c = IfOk-from_err c.from_residual-in_err-gshadow_of.result _ c.from_residual-in_err-gshadow_of.ensures.0
