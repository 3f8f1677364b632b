-- copy_over
use Rattle.std.proofs.Common.{◌+◌, ◌*◌, refl, ap, subst, ◌∙◌, arith}
use Rattle.std.specs.Prelude.{[], is_some}
use Rattle.pv_walk.specs.Edits.{count_at}
use Rattle.pv_walk.specs.Nodes.{object_states_of}
use Rattle.pv_path.specs.Paths.{staging_of}
use Rattle.pv_steps.specs.Acting.{Acted}
use Rattle.pv_steps.specs.Trees.{places}
use Rattle.pv_steps.proofs.ActingLaws.{Moves, no_memory, acted_none, acted_within}
use Rattle.pv_walk.specs.Copying.{copy_from, copied_count, topped, with_subtree, IsCopyStep, Subtree}
use Rattle.pv_walk.specs.Pieces.{cost_of}
use Rattle.pv_walk.specs.Replacing.{Replacing}
use Rattle.pv_walk.specs.Stages.{InStages}
use Rattle.pv_walk.specs.Staging.{most_new}
use Rattle.pv_walk.proofs.CopiedLaws.{top_present}
use Rattle.pv_walk.proofs.CopyingLaws.{copied_some}
use Rattle.pv_walk.proofs.StagedLaws.{staged_start}
use Rattle.pv_walk.proofs.copying.copy_over.Goals as goal
use Rattle.pv_path.proofs.Tests.{on_ok}

pub returns-in_err-pieces-clause-acted : goal.returns-in_err-pieces-clause-acted
returns-in_err-pieces-clause-acted g c =
    let moves : Moves g.T.Tree = record { stays = g.met.T.Tree.reaches_self; goes_on = g.met.T.Tree.reaches_on; never_falls = g.met.T.Tree.never_falls } in
    let t = g.T.Tree.state c.args.tree.now in
    let path = c.args.path.now in
    let s = copy_from (topped c.args.top.now) c.args.source.now (object_states_of (places t)) in
    let n = copied_count s c.args.source.now t in
    acted_none g.T.Tree moves (Replacing path s t) (IsCopyStep path s) (count_at t path + most_new * n) c.args.now c.args.tree.now
    c.from_residual.result (no_memory c.from_residual.result c.from_residual.ensures.1) (Replacing.before (λ q plain. refl))

pub returns-in_err-pieces-clause-stages : goal.returns-in_err-pieces-clause-stages
returns-in_err-pieces-clause-stages g c =
    let moves : Moves g.T.Tree = record { stays = g.met.T.Tree.reaches_self; goes_on = g.met.T.Tree.reaches_on; never_falls = g.met.T.Tree.never_falls } in
    let t = g.T.Tree.state c.args.tree.now in
    let path = c.args.path.now in
    let s = copy_from (topped c.args.top.now) c.args.source.now (object_states_of (places t)) in
    let n = copied_count s c.args.source.now t in
    acted_none g.T.Tree moves (InStages (staging_of path) s) (IsCopyStep path s) (count_at t path + most_new * n) c.args.now c.args.tree.now
    c.from_residual.result (no_memory c.from_residual.result c.from_residual.ensures.1) (staged_start (staging_of path) s t (g.met.T.Tree.is_tree c.args.tree.now) c.requires.free).stages

pub put_subtree-requires-clause-plan : goal.put_subtree-requires-clause-plan
put_subtree-requires-clause-plan g c = c.in_ok-pieces.ensures.plan

pub put_subtree-requires-clause-top : goal.put_subtree-requires-clause-top
put_subtree-requires-clause-top g c =
    ap (λ (v : Subtree). is_some (v [])) c.in_ok-pieces.ensures.all ∙ top_present c.args.top.now c.args.source.now (g.T.Tree.state c.args.tree.now) c.requires.source

pub returns-clause-ok : goal.returns-clause-ok
returns-clause-ok g c =
    let t = g.T.Tree.state c.args.tree.now in
    on_ok c.put_subtree.result (λ e. e ∙ ap (λ (v : Subtree). with_subtree c.args.now c.args.path.now v (places t)) c.in_ok-pieces.ensures.all) c.put_subtree.ensures.ok

pub returns-clause-acted : goal.returns-clause-acted
returns-clause-acted g c =
    let t = g.T.Tree.state c.args.tree.now in
    let path = c.args.path.now in
    let s = copy_from (topped c.args.top.now) c.args.source.now (object_states_of (places t)) in
    let n = copied_count s c.args.source.now t in
    let one = copied_some s c.args.source.now t (top_present c.args.top.now c.args.source.now t c.requires.source) c.requires.source in
    let most = cost_of c.in_ok-pieces.pieces.items + (1 + count_at t path) in
    acted_within g.T.Tree most (count_at t path + most_new * n) (omega (arith, c.in_ok-pieces.ensures.few, one))
    (subst (λ (v : Subtree). Acted g.T.Tree (Replacing path v t) (IsCopyStep path v) most c.args.now c.args.tree.now c.put_subtree.new.tree c.put_subtree.result) c.in_ok-pieces.ensures.all c.put_subtree.ensures.acted)

pub returns-clause-stages : goal.returns-clause-stages
returns-clause-stages g c =
    let t = g.T.Tree.state c.args.tree.now in
    let path = c.args.path.now in
    let s = copy_from (topped c.args.top.now) c.args.source.now (object_states_of (places t)) in
    let n = copied_count s c.args.source.now t in
    let one = copied_some s c.args.source.now t (top_present c.args.top.now c.args.source.now t c.requires.source) c.requires.source in
    let most = cost_of c.in_ok-pieces.pieces.items + (1 + count_at t path) in
    acted_within g.T.Tree most (count_at t path + most_new * n) (omega (arith, c.in_ok-pieces.ensures.few, one))
    (subst (λ (v : Subtree). Acted g.T.Tree (InStages (staging_of path) v) (IsCopyStep path v) most c.args.now c.args.tree.now c.put_subtree.new.tree c.put_subtree.result) c.in_ok-pieces.ensures.all c.put_subtree.ensures.stages)
