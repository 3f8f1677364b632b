-- stage_subtree
use Rattle.std.proofs.Common.{ap, ◌∙◌}
use Rattle.pv_path.specs.Paths.{Path, staging_of}
use Rattle.pv_path.proofs.PathLaws.{parent_of-staging_of}
use Rattle.pv_steps.specs.Trees.{places, kind_of}
use Rattle.pv_steps.proofs.ActingLaws.{Moves, no_memory, acted_none}
use Rattle.pv_walk.specs.Copying.{IsStagingOf}
use Rattle.pv_walk.specs.Pieces.{cost_of, made_of}
use Rattle.pv_walk.specs.Stages.{Staging}
use Rattle.pv_walk.proofs.PublishLaws.{staging_nonempty}
use Rattle.pv_walk.proofs.StageLaws.{short_last}
use Rattle.pv_walk.proofs.StagedLaws.{staged_start}
use Rattle.pv_walk.proofs.subtree.stage_subtree.Goals as goal

pub staging-requires-clause-short : goal.staging-requires-clause-short
staging-requires-clause-short g c = λ n e. short_last c.args.path.now n c.requires.short e

pub returns-in_err-stage-clause-acted : goal.returns-in_err-stage-clause-acted
returns-in_err-stage-clause-acted g c =
    let moves : Moves g.T.Tree = record { stays = g.met.T.Tree.reaches_self; goes_on = g.met.T.Tree.reaches_on; never_falls = g.met.T.Tree.never_falls } in
    let t = g.T.Tree.state c.args.tree.now in
    let path = c.args.path.now in
    let pieces = c.args.pieces.items in
    acted_none g.T.Tree moves (Staging (staging_of path) (made_of pieces) t) (IsStagingOf path (made_of pieces)) (cost_of pieces) c.args.now c.args.tree.now
    c.from_residual.result (no_memory c.from_residual.result c.from_residual.ensures.1) (staged_start (staging_of path) (made_of pieces) t (g.met.T.Tree.is_tree c.args.tree.now) c.requires.free)

pub make_subtree-requires-clause-not_root : goal.make_subtree-requires-clause-not_root
make_subtree-requires-clause-not_root g c = rw c.in_ok-stage.ensures (staging_nonempty c.args.path.now c.requires.not_root)

pub make_subtree-requires-clause-parent : goal.make_subtree-requires-clause-parent
make_subtree-requires-clause-parent g c =
    rw c.in_ok-stage.ensures (ap (λ (p : Path). kind_of (places (g.T.Tree.state c.args.tree.now) p)) (parent_of-staging_of c.args.path.now) ∙ c.requires.parent)

pub make_subtree-requires-clause-free : goal.make_subtree-requires-clause-free
make_subtree-requires-clause-free g c = rw c.in_ok-stage.ensures c.requires.free

pub returns-clause-ok : goal.returns-clause-ok
returns-clause-ok g c = rw c.in_ok-stage.ensures at c.make_subtree.ensures.ok

pub returns-clause-acted : goal.returns-clause-acted
returns-clause-acted g c = rw c.in_ok-stage.ensures at c.make_subtree.ensures.acted
