use Rattle.pv_overlap.proofs.HeadLaws.{met_heads}
use Rattle.pv_overlap.proofs.laws.patterns_that_meet_have_related_heads.Goals as goal

pub returns : goal.returns
returns c = met_heads
