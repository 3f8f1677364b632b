use Rattle.std.proofs.Common.{refl}
use Rattle.pv_steps.specs.Trees.{places}
use Rattle.pv_create.proofs.KeptLaws.{kept_all, kept_more}
use Rattle.pv_create.proofs.kept.are_kept.Goals as goal

pub loop-operation-init : goal.loop-operation-init
loop-operation-init g c = λ o there. refl

pub loop-operation-preserved : goal.loop-operation-preserved
loop-operation-preserved g c =
    kept_more c.args.sets.now c.loop-operation.operation-index c.operation-item.result (places (g.T.Tree.state c.args.tree.now)) c.args.path.now c.loop-operation-test.true c.operation-item.is c.loop-operation.invariant
    (c.in_ok-is_kept.ensures c.if-not-branch.false)

pub returns : goal.returns
returns g c =
    λ h. kept_all c.args.sets.now c.loop-operation.operation-index (places (g.T.Tree.state c.args.tree.now)) c.args.path.now c.loop-operation-test.false c.loop-operation.invariant
