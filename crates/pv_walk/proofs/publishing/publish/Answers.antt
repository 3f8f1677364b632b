use Rattle.std.proofs.Common.{◌+◌, inl, refl}
use Rattle.pv_steps.proofs.ActingLaws.{Moves, no_memory, acted_none}
use Rattle.pv_walk.specs.Edits.{count_at}
use Rattle.pv_walk.specs.Staging.{IsPublishing}
use Rattle.pv_walk.specs.Removal.{Publishing}
use Rattle.pv_walk.specs.PostOrder.{DoesInPostOrder, PublishesInOrder}
use Rattle.pv_walk.proofs.ReplacingLaws.{clearing_none}
use Rattle.pv_walk.proofs.SweepLaws.{short_name}
use Rattle.pv_walk.proofs.publishing.publish.Goals as goal

pub staging-requires-clause-short : goal.staging-requires-clause-short
staging-requires-clause-short g c n e = short_name c.args.path.now c.requires.short n e

pub returns-in_err-stage-clause-acted : goal.returns-in_err-stage-clause-acted
returns-in_err-stage-clause-acted g c =
    let moves : Moves g.T.Tree = record { stays = g.met.T.Tree.reaches_self; goes_on = g.met.T.Tree.reaches_on; never_falls = g.met.T.Tree.never_falls } in
    let t = g.T.Tree.state c.args.tree.now in
    let path = c.args.path.now in
    acted_none g.T.Tree moves (Publishing c.args.now path t) (IsPublishing path) (1 + count_at t path) c.args.now c.args.tree.now
    c.from_residual.result (no_memory c.from_residual.result c.from_residual.ensures.1) (inl (clearing_none path t))

pub returns-in_err-stage-clause-order : goal.returns-in_err-stage-clause-order
returns-in_err-stage-clause-order g c = PublishesInOrder.clears (DoesInPostOrder.nothing refl)
