use Rattle.pv_tree.proofs.GrowLaws.{IsGrowing}
use Rattle.pv_tree.proofs.PlanLaws.{held}
use Rattle.pv_generate.proofs.plan.grow.Given as goal

abbrev pub invariant-loop-path : goal.invariant-loop-path
invariant-loop-path l = IsGrowing (held l.fn.objects.entries) l.builder.files l.builder.last l.path-iterator
