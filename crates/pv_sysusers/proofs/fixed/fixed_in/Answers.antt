use Rattle.pv_sysusers.specs.Deciding.{fixed_by}
use Rattle.pv_sysusers.proofs.FixedLaws.{fixed_next}
use Rattle.pv_sysusers.proofs.fixed.fixed_in.Goals as goal

pub loop-need-preserved : goal.loop-need-preserved
loop-need-preserved c =
    fixed_next c.args.needs.now c.loop-need.need-index c.need-item.result (fixed_by c.loop-need.fixed) (fixed_by c.add.new.self) c.loop-need-test.true c.need-item.is c.in_ok-add.ensures c.loop-need.invariant
