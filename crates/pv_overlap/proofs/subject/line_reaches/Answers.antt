use Rattle.pv_overlap.specs.Subjects.{reach_of}
use Rattle.pv_overlap.proofs.LoopLaws.{mapped_more}
use Rattle.pv_overlap.proofs.subject.line_reaches.Goals as goal

pub loop-line-preserved : goal.loop-line-preserved
loop-line-preserved c =
    mapped_more reach_of c.args.lines.now c.loop-line.line-index c.line-item.result c.in_ok-reach_of.field-0 c.loop-line.reaches.items c.push.new.self.items c.loop-line-test.true c.line-item.is c.loop-line.invariant c.in_ok-reach_of.ensures c.in_ok-push.ensures.items
