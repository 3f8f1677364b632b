use Rattle.pv_laws.proofs.Stops.{partway_of_lines}
use Rattle.pv_laws.proofs.laws.what_is_on_the_way_is_a_piece.Goals as goal

pub returns : goal.returns
returns c = λ lines now t u q tree are none quiet way plain. partway_of_lines lines are none now t u tree quiet way q plain
