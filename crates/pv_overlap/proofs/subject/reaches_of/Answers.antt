use Rattle.std.proofs.Common.{◌∙◌}
use Rattle.pv_overlap.proofs.LoopLaws.{sources_clear}
use Rattle.pv_overlap.proofs.subject.reaches_of.Goals as goal

pub add_under-requires : goal.add_under-requires
add_under-requires c = sources_clear c.args.lines.now c.requires c.as_slice.result.now (c.as_slice.ensures ∙ c.in_ok-sources.ensures)
