use Rattle.pv_laws.proofs.Stops.{pieces_recover}
use Rattle.pv_laws.proofs.laws.a_run_from_pieces_recovers.Goals as goal

pub returns : goal.returns
returns c = λ lines now later t u tree there are none distinct repeatable quiet again pieces. pieces_recover lines are none distinct repeatable now later t u tree there quiet again pieces
