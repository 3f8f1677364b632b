use Rattle.std.proofs.Common.{◌++◌, refl, ◌∙◌}
use Rattle.pv_sysusers.specs.Pools.{range_of}
use Rattle.pv_sysusers.specs.Shown.{shown_line}
use Rattle.pv_sysusers.proofs.LineLaws.{lines_more}
use Rattle.std.proofs.lemmas.Result.{IfOk-from_err}
use Rattle.pv_sysusers.proofs.pool.ranges_of.Goals as goal

pub loop-line-preserved : goal.loop-line-preserved
loop-line-preserved c =
    c.in_ok-add_range.ensures ∙ (λ j. c.loop-line.invariant j ++ range_of (shown_line c.line-item.result))
    ∙ lines_more range_of c.args.lines.now c.args.lines.now c.loop-line.line-index c.line-item.result refl c.loop-line-test.true c.line-item.is

pub returns-in_err-add_range : goal.returns-in_err-add_range
returns-in_err-add_range c = IfOk-from_err c.from_residual.result _ c.from_residual.ensures.0
