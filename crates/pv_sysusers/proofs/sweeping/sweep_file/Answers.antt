use Rattle.pv_path.proofs.PathLaws.{is_prefix-refl}
use Rattle.pv_steps.proofs.ActingLaws.{Moves, acted_within}
use Rattle.pv_path.specs.Paths.{staging_of}
use Rattle.pv_walk.specs.Edits.{count_at}
use Rattle.pv_walk.specs.Staging.{count_at_all, is_under_any, staging_names}
use Rattle.pv_walk.proofs.PreparingSweep.{swept_along}
use Rattle.pv_sysusers.proofs.SweepingLaws.{count_one, path_among, swept_within}
use Rattle.pv_sysusers.proofs.sweeping.sweep_file.Goals as goal
use Rattle.pv_path.proofs.Tests.{on_ok}

pub returns-clause-acted : goal.returns-clause-acted
returns-clause-acted g c =
    let moves : Moves g.T.Tree = record { stays = g.met.T.Tree.reaches_self; goes_on = g.met.T.Tree.reaches_on; never_falls = g.met.T.Tree.never_falls } in
    let t = g.T.Tree.state c.args.tree.now in
    let path = c.args.path.now in
    acted_within g.T.Tree (count_at_all t (staging_names path)) (count_at t (staging_of path)) (count_one path c.requires.path t (g.met.T.Tree.is_tree c.args.tree.now) c.requires.above)
    (swept_within g.T.Tree moves (is_under_any (staging_names path)) (path_among path c.requires.path) c.sweep.ensures.acted)

pub returns-clause-free : goal.returns-clause-free
returns-clause-free g c =
    let path = c.args.path.now in
    on_ok c.sweep.result (λ e. swept_along c.args.now path (g.T.Tree.state c.args.tree.now) (g.T.Tree.state c.sweep.new.tree) e path c.requires.path.some (is_prefix-refl path)) c.sweep.ensures.taken
