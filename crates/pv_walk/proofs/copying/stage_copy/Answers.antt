-- stage_copy
use Rattle.std.proofs.Common.{◌*◌, ap, subst, ◌∙◌}
use Rattle.std.specs.Prelude.{[], is_some}
use Rattle.pv_walk.specs.Nodes.{object_states_of}
use Rattle.pv_path.specs.Paths.{staging_of}
use Rattle.pv_steps.specs.Acting.{Acted}
use Rattle.pv_steps.specs.Trees.{places}
use Rattle.pv_steps.proofs.ActingLaws.{Moves, no_memory, acted_none, acted_within}
use Rattle.pv_walk.specs.Copying.{copy_from, copied_count, topped, with_subtree, IsStagingOf, Subtree}
use Rattle.pv_walk.specs.Pieces.{cost_of}
use Rattle.pv_walk.specs.Stages.{Staging}
use Rattle.pv_walk.specs.Staging.{most_staged}
use Rattle.pv_walk.proofs.CopiedLaws.{top_present}
use Rattle.pv_walk.proofs.StagedLaws.{staged_start}
use Rattle.pv_walk.proofs.copying.stage_copy.Goals as goal
use Rattle.pv_path.proofs.Tests.{on_ok}

pub returns-in_err-pieces-clause-acted : goal.returns-in_err-pieces-clause-acted
returns-in_err-pieces-clause-acted g c =
    let moves : Moves g.T.Tree = record { stays = g.met.T.Tree.reaches_self; goes_on = g.met.T.Tree.reaches_on; never_falls = g.met.T.Tree.never_falls } in
    let t = g.T.Tree.state c.args.tree.now in
    let path = c.args.path.now in
    let s = copy_from (topped c.args.top.now) c.args.source.now (object_states_of (places t)) in
    acted_none g.T.Tree moves (Staging (staging_of path) s t) (IsStagingOf path s) (most_staged * copied_count s c.args.source.now t) c.args.now c.args.tree.now
    c.from_residual.result (no_memory c.from_residual.result c.from_residual.ensures.1) (staged_start (staging_of path) s t (g.met.T.Tree.is_tree c.args.tree.now) c.requires.free)

pub stage_subtree-requires-clause-plan : goal.stage_subtree-requires-clause-plan
stage_subtree-requires-clause-plan g c = c.in_ok-pieces.ensures.plan

pub stage_subtree-requires-clause-top : goal.stage_subtree-requires-clause-top
stage_subtree-requires-clause-top g c =
    ap (λ (v : Subtree). is_some (v [])) c.in_ok-pieces.ensures.all ∙ top_present c.args.top.now c.args.source.now (g.T.Tree.state c.args.tree.now) c.requires.source

pub returns-clause-ok : goal.returns-clause-ok
returns-clause-ok g c =
    let t = g.T.Tree.state c.args.tree.now in
    on_ok c.stage_subtree.result (λ e. e ∙ ap (λ (v : Subtree). with_subtree c.args.now (staging_of c.args.path.now) v (places t)) c.in_ok-pieces.ensures.all) c.stage_subtree.ensures.ok

pub returns-clause-acted : goal.returns-clause-acted
returns-clause-acted g c =
    let t = g.T.Tree.state c.args.tree.now in
    let path = c.args.path.now in
    let s = copy_from (topped c.args.top.now) c.args.source.now (object_states_of (places t)) in
    acted_within g.T.Tree (cost_of c.in_ok-pieces.pieces.items) (most_staged * copied_count s c.args.source.now t) c.in_ok-pieces.ensures.few
    (subst (λ (v : Subtree). Acted g.T.Tree (Staging (staging_of path) v t) (IsStagingOf path v) (cost_of c.in_ok-pieces.pieces.items) c.args.now c.args.tree.now c.stage_subtree.new.tree c.stage_subtree.result) c.in_ok-pieces.ensures.all c.stage_subtree.ensures.acted)
