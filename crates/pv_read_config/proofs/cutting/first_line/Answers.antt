use Rattle.pv_read_config.proofs.CuttingLaws.{lines_in-cut, lines_in-last}
use Rattle.pv_read_config.proofs.cutting.first_line.Goals as goal

pub returns-then-end-text-clause-cut : goal.returns-then-end-text-clause-cut
returns-then-end-text-clause-cut c = lines_in-last c.args.text.now c.line_end-end.result c.requires c.line_end-end.ensures.value c.if-end-text.true

pub returns-else-end-text-clause-cut : goal.returns-else-end-text-clause-cut
returns-else-end-text-clause-cut c = lines_in-cut c.args.text.now c.line_end-end.result c.requires c.line_end-end.ensures.value
