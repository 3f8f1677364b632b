use Rattle.std.proofs.Common.{◌∙◌}
use Rattle.pv_sysusers.specs.Pools.{greater}
use Rattle.pv_sysusers.proofs.Highest.{top_none, top_step}
use Rattle.pv_sysusers.proofs.pool.Pool.top.Goals as goal

pub loop-range-init : goal.loop-range-init
loop-range-init c = top_none c.args.bound

pub loop-range-preserved : goal.loop-range-preserved
loop-range-preserved c =
    c.greater-top.ensures ∙ (λ j. greater (c.loop-range.invariant j) (c.top_of.ensures j))
    ∙ top_step c.args.self.now.ranges.items c.deref-range-items.result.now c.loop-range.range-index c.args.bound _ c.deref-range-items.ensures.value c.loop-range-test.true
