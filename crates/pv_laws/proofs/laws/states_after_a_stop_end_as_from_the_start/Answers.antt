use Rattle.pv_laws.proofs.StateStops.{states_end}
use Rattle.pv_laws.proofs.laws.states_after_a_stop_end_as_from_the_start.Goals as goal

pub returns : goal.returns
returns c = λ lines now s r t u q tree there are distinct repeatable quiet same other way plain.
    states_end lines are distinct repeatable now t u tree there quiet way r other s same q plain
