use Rattle.pv_table.proofs.ActionLaws.{nothing_asked}
use Rattle.pv_table.proofs.laws.a_line_asks_nothing_elsewhere.Goals as goal

pub returns : goal.returns
returns c = nothing_asked
