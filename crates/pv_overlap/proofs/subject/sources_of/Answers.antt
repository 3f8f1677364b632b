use Rattle.pv_overlap.proofs.LoopLaws.{sources_more}
use Rattle.pv_overlap.proofs.subject.sources_of.Goals as goal

pub loop-line-preserved : goal.loop-line-preserved
loop-line-preserved c = sources_more c.args.lines.now c.loop-line.line-index c.line-item.result c.in_ok-source_of.field-0 c.loop-line.sources c.add_source.new.sources c.loop-line-test.true c.line-item.is c.loop-line.invariant c.in_ok-source_of.ensures c.in_ok-add_source.ensures
