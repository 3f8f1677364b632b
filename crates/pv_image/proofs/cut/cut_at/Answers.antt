use Rattle.pv_image.proofs.Cuts.{cut_first, cut_none}
use Rattle.pv_image.proofs.cut.cut_at.Goals as goal

pub returns-in_err-at-clause-none : goal.returns-in_err-at-clause-none
returns-in_err-at-clause-none c = rw c.from_residual.ensures (cut_none c.args.byte c.args.text.now c.in_err-at.ensures)

pub returns-clause-some : goal.returns-clause-some
returns-clause-some c = cut_first c.args.byte c.args.text.now c.in_ok-at.at c.in_ok-at.ensures
