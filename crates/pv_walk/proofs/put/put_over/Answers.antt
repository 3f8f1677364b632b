-- put_over
use Rattle.std.proofs.Common.{◌+◌, refl, ap, subst, ◌∙◌, arith}
use Rattle.pv_walk.specs.Edits.{count_at}
use Rattle.pv_path.specs.Paths.{staging_of}
use Rattle.pv_steps.specs.Acting.{Acted}
use Rattle.pv_steps.specs.Trees.{places}
use Rattle.pv_steps.proofs.ActingLaws.{Moves, no_memory, acted_none, acted_weaken}
use Rattle.pv_walk.specs.Copying.{with_subtree, IsCopyStep, Subtree}
use Rattle.pv_walk.specs.Pieces.{cost_of}
use Rattle.pv_walk.specs.Putting.{IsPutStep}
use Rattle.pv_walk.specs.Replacing.{Replacing, new_subtree}
use Rattle.pv_walk.specs.Stages.{InStages}
use Rattle.pv_walk.specs.Staging.{most_new}
use Rattle.pv_walk.proofs.NewLaws.{new_planned, new_top, new_cost, put_new_step}
use Rattle.pv_walk.proofs.PuttingOverLaws.{put_single}
use Rattle.pv_walk.proofs.StagedLaws.{staged_start}
use Rattle.pv_walk.proofs.put.put_over.Goals as goal
use Rattle.pv_path.proofs.Tests.{on_ok}

pub returns-clause-acted : goal.returns-clause-acted
returns-clause-acted g c =
    let t = g.T.Tree.state c.args.tree.now in
    let path = c.args.path.now in
    let file = c.args.new.now in
    let s = new_subtree file in
    let pieces = c.in_ok-pieces.pieces.items in
    let plan = new_planned file c.requires.new pieces c.in_ok-pieces.ensures in
    let cost = new_cost file c.requires.new pieces c.in_ok-pieces.ensures in
    let most = cost_of pieces + (1 + count_at t path) in
    acted_weaken g.T.Tree (Replacing path s t) (Replacing path s t) (IsCopyStep path s) (IsPutStep path file) most (count_at t path + most_new) (λ u h. h) (put_new_step file path) (omega (arith, cost))
    (subst (λ (v : Subtree). Acted g.T.Tree (Replacing path v t) (IsCopyStep path v) most c.args.now c.args.tree.now c.put_subtree.new.tree c.put_subtree.result) plan.1 c.put_subtree.ensures.acted)

pub returns-in_err-pieces-clause-acted : goal.returns-in_err-pieces-clause-acted
returns-in_err-pieces-clause-acted g c =
    let moves : Moves g.T.Tree = record { stays = g.met.T.Tree.reaches_self; goes_on = g.met.T.Tree.reaches_on; never_falls = g.met.T.Tree.never_falls } in
    let t = g.T.Tree.state c.args.tree.now in
    let path = c.args.path.now in
    let file = c.args.new.now in
    let s = new_subtree file in
    acted_none g.T.Tree moves (Replacing path s t) (IsPutStep path file) (count_at t path + most_new) c.args.now c.args.tree.now
    c.from_residual.result (no_memory c.from_residual.result c.from_residual.ensures.1) (Replacing.before (λ q plain. refl))

pub returns-in_err-pieces-clause-stages : goal.returns-in_err-pieces-clause-stages
returns-in_err-pieces-clause-stages g c =
    let moves : Moves g.T.Tree = record { stays = g.met.T.Tree.reaches_self; goes_on = g.met.T.Tree.reaches_on; never_falls = g.met.T.Tree.never_falls } in
    let t = g.T.Tree.state c.args.tree.now in
    let path = c.args.path.now in
    let file = c.args.new.now in
    let s = new_subtree file in
    acted_none g.T.Tree moves (InStages (staging_of path) s) (IsPutStep path file) (count_at t path + most_new) c.args.now c.args.tree.now
    c.from_residual.result (no_memory c.from_residual.result c.from_residual.ensures.1) (staged_start (staging_of path) s t (g.met.T.Tree.is_tree c.args.tree.now) c.requires.free).stages

pub put_subtree-requires-clause-plan : goal.put_subtree-requires-clause-plan
put_subtree-requires-clause-plan g c = (new_planned c.args.new.now c.requires.new c.in_ok-pieces.pieces.items c.in_ok-pieces.ensures).0

pub put_subtree-requires-clause-top : goal.put_subtree-requires-clause-top
put_subtree-requires-clause-top g c = new_top c.args.new.now c.requires.new c.in_ok-pieces.pieces.items c.in_ok-pieces.ensures

pub returns-clause-ok : goal.returns-clause-ok
returns-clause-ok g c =
    let t = g.T.Tree.state c.args.tree.now in
    let path = c.args.path.now in
    let file = c.args.new.now in
    let s = new_subtree file in
    let plan = new_planned file c.requires.new c.in_ok-pieces.pieces.items c.in_ok-pieces.ensures in
    on_ok c.put_subtree.result
    (λ e. e ∙ ap (λ (v : Subtree). with_subtree c.args.now path v (places t)) plan.1 ∙ (λ i q. put_single c.args.now path file (places t) q i))
    c.put_subtree.ensures.ok

pub returns-clause-stages : goal.returns-clause-stages
returns-clause-stages g c =
    let t = g.T.Tree.state c.args.tree.now in
    let path = c.args.path.now in
    let file = c.args.new.now in
    let s = new_subtree file in
    let pieces = c.in_ok-pieces.pieces.items in
    let plan = new_planned file c.requires.new pieces c.in_ok-pieces.ensures in
    let cost = new_cost file c.requires.new pieces c.in_ok-pieces.ensures in
    let most = cost_of pieces + (1 + count_at t path) in
    acted_weaken g.T.Tree (InStages (staging_of path) s) (InStages (staging_of path) s) (IsCopyStep path s) (IsPutStep path file) most (count_at t path + most_new) (λ u h. h) (put_new_step file path) (omega (arith, cost))
    (subst (λ (v : Subtree). Acted g.T.Tree (InStages (staging_of path) v) (IsCopyStep path v) most c.args.now c.args.tree.now c.put_subtree.new.tree c.put_subtree.result) plan.1 c.put_subtree.ensures.stages)
