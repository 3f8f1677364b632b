-- stage_file
use Rattle.std.proofs.Common.{ap, subst, ◌∙◌, arith}
use Rattle.pv_path.specs.Paths.{staging_of}
use Rattle.pv_steps.specs.Acting.{Acted}
use Rattle.pv_steps.specs.Steps.{made}
use Rattle.pv_steps.specs.Trees.{Places, places}
use Rattle.pv_steps.proofs.ActingLaws.{Moves, no_memory, acted_none, acted_weaken}
use Rattle.pv_walk.specs.Copying.{with_subtree, IsStagingOf, Subtree}
use Rattle.pv_walk.specs.Pieces.{cost_of}
use Rattle.pv_walk.specs.Replacing.{new_subtree}
use Rattle.pv_walk.specs.Stages.{Staging}
use Rattle.pv_walk.specs.Staging.{GivesNew, most_staged, new_object}
use Rattle.pv_walk.proofs.NewLaws.{new_planned, new_top, new_cost, part_new}
use Rattle.pv_walk.proofs.PuttingOverLaws.{cut_absent, put_single}
use Rattle.pv_walk.proofs.StagedLaws.{staged_start}
use Rattle.pv_walk.proofs.put.stage_file.Goals as goal
use Rattle.pv_path.proofs.Tests.{on_ok}

pub returns-in_err-pieces-clause-acted : goal.returns-in_err-pieces-clause-acted
returns-in_err-pieces-clause-acted g c =
    let moves : Moves g.T.Tree = record { stays = g.met.T.Tree.reaches_self; goes_on = g.met.T.Tree.reaches_on; never_falls = g.met.T.Tree.never_falls } in
    let t = g.T.Tree.state c.args.tree.now in
    let path = c.args.path.now in
    let file = c.args.new.now in
    let s = new_subtree file in
    acted_none g.T.Tree moves (Staging (staging_of path) s t) (GivesNew (staging_of path) file) most_staged c.args.now c.args.tree.now
    c.from_residual.result (no_memory c.from_residual.result c.from_residual.ensures.1) (staged_start (staging_of path) s t (g.met.T.Tree.is_tree c.args.tree.now) c.requires.free)

pub stage_subtree-requires-clause-plan : goal.stage_subtree-requires-clause-plan
stage_subtree-requires-clause-plan g c = (new_planned c.args.new.now c.requires.new c.in_ok-pieces.pieces.items c.in_ok-pieces.ensures).0

pub stage_subtree-requires-clause-top : goal.stage_subtree-requires-clause-top
stage_subtree-requires-clause-top g c = new_top c.args.new.now c.requires.new c.in_ok-pieces.pieces.items c.in_ok-pieces.ensures

pub returns-clause-ok : goal.returns-clause-ok
returns-clause-ok g c =
    let t = g.T.Tree.state c.args.tree.now in
    let path = c.args.path.now in
    let file = c.args.new.now in
    let s = new_subtree file in
    let stage = staging_of path in
    let plan = new_planned file c.requires.new c.in_ok-pieces.pieces.items c.in_ok-pieces.ensures in
    on_ok c.stage_subtree.result
    (λ e. e ∙ ap (λ (v : Subtree). with_subtree c.args.now stage v (places t)) plan.1 ∙ (λ i q. put_single c.args.now stage file (places t) q i)
    ∙ ap (λ (x : Places). made c.args.now stage (new_object file c.args.now) x) (cut_absent stage t (g.met.T.Tree.is_tree c.args.tree.now) c.requires.free))
    c.stage_subtree.ensures.ok

pub returns-clause-acted : goal.returns-clause-acted
returns-clause-acted g c =
    let t = g.T.Tree.state c.args.tree.now in
    let path = c.args.path.now in
    let file = c.args.new.now in
    let s = new_subtree file in
    let pieces = c.in_ok-pieces.pieces.items in
    let plan = new_planned file c.requires.new pieces c.in_ok-pieces.ensures in
    let cost = new_cost file c.requires.new pieces c.in_ok-pieces.ensures in
    acted_weaken g.T.Tree (Staging (staging_of path) s t) (Staging (staging_of path) s t) (IsStagingOf path s) (GivesNew (staging_of path) file) (cost_of pieces) most_staged (λ u h. h)
    (part_new file (staging_of path)) (omega (arith, cost))
    (subst (λ (v : Subtree). Acted g.T.Tree (Staging (staging_of path) v t) (IsStagingOf path v) (cost_of pieces) c.args.now c.args.tree.now c.stage_subtree.new.tree c.stage_subtree.result) plan.1 c.stage_subtree.ensures.acted)
