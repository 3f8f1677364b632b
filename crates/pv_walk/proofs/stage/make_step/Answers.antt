use Rattle.std.proofs.lemmas.Result.{IfOk-from_err}
use Rattle.pv_walk.proofs.stage.make_step.Goals as goal

pub returns-in_err-path : goal.returns-in_err-path
returns-in_err-path c = IfOk-from_err c.from_residual.result _ c.from_residual.ensures.0

pub returns-in_err-copy-in-Link : goal.returns-in_err-copy-in-Link
returns-in_err-copy-in-Link c = IfOk-from_err c.from_residual-in_err-copy-in-Link.result _ c.from_residual-in_err-copy-in-Link.ensures.0
