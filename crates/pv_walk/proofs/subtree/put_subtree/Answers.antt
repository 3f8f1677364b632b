-- put_subtree
use Rattle.std.proofs.Common.{◌+◌, refl, ap, ◌∙◌, arith, inl, inr}
use Rattle.std.specs.Prelude.{is_some}
use Rattle.pv_walk.specs.Edits.{count_at}
use Rattle.pv_path.specs.Paths.{Path, staging_of}
use Rattle.pv_steps.specs.Steps.{moved}
use Rattle.pv_steps.specs.Trees.{Places, places, kind_of}
use Rattle.pv_steps.proofs.ActingLaws.{Moves, no_memory, acted_none, acted_passed}
use Rattle.pv_walk.specs.Copying.{IsStagingOf, IsCopyStep}
use Rattle.pv_walk.specs.Pieces.{cost_of, made_of}
use Rattle.pv_walk.specs.Replacing.{Replacing}
use Rattle.pv_walk.specs.Stages.{InStages}
use Rattle.pv_path.proofs.PathLaws.{parent_of-staging_of}
use Rattle.pv_walk.proofs.PublishLaws.{staging_nonempty}
use Rattle.pv_walk.proofs.StageLaws.{short_last}
use Rattle.pv_walk.proofs.CopyingLaws.{copy_moved, copy_staged, subtree_staging, subtree_count, subtree_acted}
use Rattle.pv_walk.proofs.StagedLaws.{staged_start, stages_staged, stages_published}
use Rattle.pv_walk.proofs.subtree.put_subtree.Goals as goal
use Rattle.pv_path.proofs.Tests.{on_ok}

pub staging-requires-clause-short : goal.staging-requires-clause-short
staging-requires-clause-short g c = λ n e. short_last c.args.path.now n c.requires.short e

pub returns-in_err-stage-clause-acted : goal.returns-in_err-stage-clause-acted
returns-in_err-stage-clause-acted g c =
    let moves : Moves g.T.Tree = record { stays = g.met.T.Tree.reaches_self; goes_on = g.met.T.Tree.reaches_on; never_falls = g.met.T.Tree.never_falls } in
    let t = g.T.Tree.state c.args.tree.now in
    let path = c.args.path.now in
    let s = made_of c.args.pieces.items in
    acted_none g.T.Tree moves (Replacing path s t) (IsCopyStep path s) (cost_of c.args.pieces.items + (1 + count_at t path)) c.args.now c.args.tree.now
    c.from_residual.result (no_memory c.from_residual.result c.from_residual.ensures.1) (Replacing.before (λ q plain. refl))

pub returns-in_err-stage-clause-stages : goal.returns-in_err-stage-clause-stages
returns-in_err-stage-clause-stages g c =
    let moves : Moves g.T.Tree = record { stays = g.met.T.Tree.reaches_self; goes_on = g.met.T.Tree.reaches_on; never_falls = g.met.T.Tree.never_falls } in
    let t = g.T.Tree.state c.args.tree.now in
    let path = c.args.path.now in
    let s = made_of c.args.pieces.items in
    acted_none g.T.Tree moves (InStages (staging_of path) s) (IsCopyStep path s) (cost_of c.args.pieces.items + (1 + count_at t path)) c.args.now c.args.tree.now
    c.from_residual.result (no_memory c.from_residual.result c.from_residual.ensures.1) (staged_start (staging_of path) s t (g.met.T.Tree.is_tree c.args.tree.now) c.requires.free).stages

pub make_subtree-requires-clause-not_root : goal.make_subtree-requires-clause-not_root
make_subtree-requires-clause-not_root g c = rw c.in_ok-stage.ensures (staging_nonempty c.args.path.now c.requires.not_root)

pub make_subtree-requires-clause-parent : goal.make_subtree-requires-clause-parent
make_subtree-requires-clause-parent g c =
    rw c.in_ok-stage.ensures (ap (λ (p : Path). kind_of (places (g.T.Tree.state c.args.tree.now) p)) (parent_of-staging_of c.args.path.now) ∙ c.requires.parent)

pub make_subtree-requires-clause-free : goal.make_subtree-requires-clause-free
make_subtree-requires-clause-free g c = rw c.in_ok-stage.ensures c.requires.free

pub publish_staged-requires-clause-staged : goal.publish_staged-requires-clause-staged
publish_staged-requires-clause-staged g c =
    let t = g.T.Tree.state c.args.tree.now in
    let path = c.args.path.now in
    let s = made_of c.args.pieces.items in
    ap (λ (x : Places). is_some (x (staging_of path))) (rw c.in_ok-stage.ensures at c.in_ok-make_subtree.ensures.ok)
    ∙ copy_staged c.args.now path c.requires.not_root s t (g.met.T.Tree.is_tree c.args.tree.now) c.requires.free c.requires.top

pub returns-clause-ok : goal.returns-clause-ok
returns-clause-ok g c =
    let t = g.T.Tree.state c.args.tree.now in
    let path = c.args.path.now in
    let s = made_of c.args.pieces.items in
    on_ok c.publish_staged.result
    (λ e. e ∙ ap (moved c.args.now (staging_of path) path) (rw c.in_ok-stage.ensures at c.in_ok-make_subtree.ensures.ok) ∙ copy_moved c.args.now path c.requires.not_root s t (g.met.T.Tree.is_tree c.args.tree.now) c.requires.free)
    c.publish_staged.ensures.moved

pub returns-in_err-make_subtree-clause-acted : goal.returns-in_err-make_subtree-clause-acted
returns-in_err-make_subtree-clause-acted g c =
    let t = g.T.Tree.state c.args.tree.now in
    let path = c.args.path.now in
    let s = made_of c.args.pieces.items in
    acted_passed g.T.Tree c.make_subtree.result c.from_residual-in_err-make_subtree.result c.in_err-make_subtree.was c.from_residual-in_err-make_subtree.ensures.1
    (subtree_staging g.T.Tree c.args.now path c.requires.not_root s c.args.tree.now c.make_subtree.new.tree (g.met.T.Tree.is_tree c.args.tree.now) c.requires.free
    (cost_of c.args.pieces.items + (1 + count_at t path)) (omega arith) (rw c.in_ok-stage.ensures at c.make_subtree.ensures.acted))

pub returns-clause-acted : goal.returns-clause-acted
returns-clause-acted g c =
    let moves : Moves g.T.Tree = record { stays = g.met.T.Tree.reaches_self; goes_on = g.met.T.Tree.reaches_on; never_falls = g.met.T.Tree.never_falls } in
    let t = g.T.Tree.state c.args.tree.now in
    let path = c.args.path.now in
    let s = made_of c.args.pieces.items in
    subtree_acted g.T.Tree c.args.now path c.requires.not_root s c.args.tree.now c.make_subtree.new.tree (g.met.T.Tree.is_tree c.args.tree.now) c.requires.free (rw c.in_ok-stage.ensures at c.in_ok-make_subtree.ensures.ok) moves
    (rw c.in_ok-stage.ensures at c.in_ok-make_subtree.ensures.acted) c.publish_staged.ensures.acted

pub returns-in_err-make_subtree-clause-stages : goal.returns-in_err-make_subtree-clause-stages
returns-in_err-make_subtree-clause-stages g c =
    let t = g.T.Tree.state c.args.tree.now in
    let path = c.args.path.now in
    let s = made_of c.args.pieces.items in
    acted_passed g.T.Tree c.make_subtree.result c.from_residual-in_err-make_subtree.result c.in_err-make_subtree.was c.from_residual-in_err-make_subtree.ensures.1
    (stages_staged path c.requires.not_root s g.T.Tree (IsStagingOf path s) (IsCopyStep path s) (λ step k. inl k) (cost_of c.args.pieces.items + (1 + count_at t path)) (omega arith) (rw c.in_ok-stage.ensures at c.make_subtree.ensures.acted))

pub returns-clause-stages : goal.returns-clause-stages
returns-clause-stages g c =
    let moves : Moves g.T.Tree = record { stays = g.met.T.Tree.reaches_self; goes_on = g.met.T.Tree.reaches_on; never_falls = g.met.T.Tree.never_falls } in
    let t = g.T.Tree.state c.args.tree.now in
    let path = c.args.path.now in
    let s = made_of c.args.pieces.items in
    let fewer =
    subtree_count g.T.Tree c.args.now path c.requires.not_root s c.args.tree.now c.make_subtree.new.tree (g.met.T.Tree.is_tree c.args.tree.now) c.requires.free (rw c.in_ok-stage.ensures at c.in_ok-make_subtree.ensures.ok) in
    stages_published path c.requires.not_root s g.T.Tree (IsStagingOf path s) (IsCopyStep path s) (λ step k. inl k) moves (λ step k. inr k) (cost_of c.args.pieces.items + (1 + count_at t path)) (omega (arith, fewer))
    (rw c.in_ok-stage.ensures at c.in_ok-make_subtree.ensures.acted) c.publish_staged.ensures.acted
