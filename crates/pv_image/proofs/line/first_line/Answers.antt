use Rattle.pv_image.proofs.Cuts.{line_cuts}
use Rattle.pv_image.proofs.line.first_line.Goals as goal

pub returns-clause-some : goal.returns-clause-some
returns-clause-some c = line_cuts c.args.bytes.now c.cut_at.result c.cut_at.ensures.some
