use Rattle.std.proofs.Common.{refl}
use Rattle.pv_tree.proofs.PlanLaws.{insert-map}
use Rattle.pv_generate.proofs.plan.Plan.put.Goals as goal

pub returns : goal.returns
returns c = rw (c.in_ok-_replaced.ensures.entries, insert-map, c.self.view_is) refl
