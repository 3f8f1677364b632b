use Rattle.std.proofs.Common.{take}
use Rattle.pv_steps.specs.Trees.{places}
use Rattle.pv_create.proofs.KeptLaws.{AreKept}
use Rattle.pv_create.proofs.kept.are_kept.Given as goal

abbrev pub invariant-loop-operation : goal.invariant-loop-operation
invariant-loop-operation g l = AreKept (take l.operation-index l.sets) (places (g.T.Tree.state l.tree)) l.path
