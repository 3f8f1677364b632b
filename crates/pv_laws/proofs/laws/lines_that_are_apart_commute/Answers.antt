use Rattle.pv_laws.proofs.Commuting.{lines_commute}
use Rattle.pv_laws.proofs.laws.lines_that_are_apart_commute.Goals as goal

pub returns : goal.returns
returns c = λ a b now later t tree is_a is_b repeatable meet_none quiet again. lines_commute a b is_a is_b repeatable meet_none now later t tree quiet again
