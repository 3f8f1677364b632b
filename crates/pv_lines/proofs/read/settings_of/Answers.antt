use Rattle.std.proofs.lemmas.Result.{IfOk-from_err}
use Rattle.pv_lines.proofs.read.settings_of.Goals as goal

pub returns-in_err-mode_of-clause-read : goal.returns-in_err-mode_of-clause-read
returns-in_err-mode_of-clause-read g c = IfOk-from_err c.from_residual.result _ c.from_residual.ensures.0

pub returns-in_err-mode_of-clause-small : goal.returns-in_err-mode_of-clause-small
returns-in_err-mode_of-clause-small g c = IfOk-from_err c.from_residual.result _ c.from_residual.ensures.0

pub returns-in_err-user_of-clause-read : goal.returns-in_err-user_of-clause-read
returns-in_err-user_of-clause-read g c = IfOk-from_err c.from_residual-in_err-user_of.result _ c.from_residual-in_err-user_of.ensures.0

pub returns-in_err-user_of-clause-small : goal.returns-in_err-user_of-clause-small
returns-in_err-user_of-clause-small g c = IfOk-from_err c.from_residual-in_err-user_of.result _ c.from_residual-in_err-user_of.ensures.0

pub returns-in_err-group_of-clause-read : goal.returns-in_err-group_of-clause-read
returns-in_err-group_of-clause-read g c = IfOk-from_err c.from_residual-in_err-group_of.result _ c.from_residual-in_err-group_of.ensures.0

pub returns-in_err-group_of-clause-small : goal.returns-in_err-group_of-clause-small
returns-in_err-group_of-clause-small g c = IfOk-from_err c.from_residual-in_err-group_of.result _ c.from_residual-in_err-group_of.ensures.0

pub returns-in_err-age_of-clause-read : goal.returns-in_err-age_of-clause-read
returns-in_err-age_of-clause-read g c = IfOk-from_err c.from_residual-in_err-age_of.result _ c.from_residual-in_err-age_of.ensures.0

pub returns-in_err-age_of-clause-small : goal.returns-in_err-age_of-clause-small
returns-in_err-age_of-clause-small g c = IfOk-from_err c.from_residual-in_err-age_of.result _ c.from_residual-in_err-age_of.ensures.0
