use Rattle.std.proofs.Common.{refl}
use Rattle.pv_explain.proofs.StandingLaws.{insert-map}
use Rattle.pv_explain.proofs.standing.Standing.put.Goals as goal

pub returns : goal.returns
returns c = rw (c.in_ok-_replaced.ensures.entries, insert-map, c.self.view_is) refl
