use Rattle.pv_accounts.proofs.Pieces.{split_cut, split_whole}
use Rattle.pv_accounts.proofs.cutting.cut.Goals as goal

pub returns-then-at-text-clause-parts : goal.returns-then-at-text-clause-parts
returns-then-at-text-clause-parts c = split_cut c.args.byte c.args.text.now c.place_of-at.result c.place_of-at.ensures.place c.if-at-text.true

pub returns-else-at-text-clause-parts : goal.returns-else-at-text-clause-parts
returns-else-at-text-clause-parts c = split_whole c.args.byte c.args.text.now (rw (← c.place_of-at.ensures.place) c.if-at-text.false)
