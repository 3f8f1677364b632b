use Rattle.pv_laws.proofs.Stops.{piece_recovers}
use Rattle.pv_laws.proofs.laws.a_piece_ends_as_the_start.Goals as goal

pub returns : goal.returns
returns c = λ lines q old new are distinct repeatable named piece. piece_recovers lines are distinct repeatable q named old new piece
