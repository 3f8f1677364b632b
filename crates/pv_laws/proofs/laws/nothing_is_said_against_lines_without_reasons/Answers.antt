use Rattle.pv_laws.proofs.Repeated.{operations_repeatable}
use Rattle.pv_laws.proofs.laws.nothing_is_said_against_lines_without_reasons.Goals as goal

pub returns : goal.returns
returns c = λ lines q are distinct repeatable. operations_repeatable lines are distinct repeatable q
