use Rattle.pv_laws.proofs.StateStops.{run_recovers}
use Rattle.pv_laws.proofs.laws.a_run_cut_short_recovers.Goals as goal

pub returns : goal.returns
returns c = λ lines now later t u tree there are distinct repeatable quiet again way. run_recovers lines are distinct repeatable now later t u tree there quiet again way
