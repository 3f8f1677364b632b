use Rattle.std.proofs.lemmas.Result.{IfOk-from_err}
use Rattle.pv_walk.proofs.listing.add_object.Goals as goal

pub returns-in_err-copy-clause-left : goal.returns-in_err-copy-clause-left
returns-in_err-copy-clause-left c = IfOk-from_err c.from_residual.result _ c.from_residual.ensures.0

pub returns-in_err-copy-clause-listed : goal.returns-in_err-copy-clause-listed
returns-in_err-copy-clause-listed c = IfOk-from_err c.from_residual.result _ c.from_residual.ensures.0

pub returns-in_err-push-clause-left : goal.returns-in_err-push-clause-left
returns-in_err-push-clause-left c = IfOk-from_err c.from_residual-in_err-push.result _ c.from_residual-in_err-push.ensures.0

pub returns-in_err-push-clause-listed : goal.returns-in_err-push-clause-listed
returns-in_err-push-clause-listed c = IfOk-from_err c.from_residual-in_err-push.result _ c.from_residual-in_err-push.ensures.0

pub returns-in_err-copy-2-clause-left : goal.returns-in_err-copy-2-clause-left
returns-in_err-copy-2-clause-left c = IfOk-from_err c.from_residual-in_err-copy-2.result _ c.from_residual-in_err-copy-2.ensures.0

pub returns-in_err-copy-2-clause-listed : goal.returns-in_err-copy-2-clause-listed
returns-in_err-copy-2-clause-listed c = IfOk-from_err c.from_residual-in_err-copy-2.result _ c.from_residual-in_err-copy-2.ensures.0

pub returns-in_err-push-2-clause-left : goal.returns-in_err-push-2-clause-left
returns-in_err-push-2-clause-left c = IfOk-from_err c.from_residual-in_err-push-2.result _ c.from_residual-in_err-push-2.ensures.0

pub returns-in_err-push-2-clause-listed : goal.returns-in_err-push-2-clause-listed
returns-in_err-push-2-clause-listed c = IfOk-from_err c.from_residual-in_err-push-2.result _ c.from_residual-in_err-push-2.ensures.0
