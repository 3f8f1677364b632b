use Rattle.std.proofs.Common.{◌+◌, ap, subst, ◌∙◌, arith}
use Rattle.pv_path.specs.Paths.{Path, staging_of}
use Rattle.pv_steps.specs.Acting.{Acted}
use Rattle.pv_steps.specs.Trees.{Places, places}
use Rattle.pv_steps.specs.Steps.{made, moved}
use Rattle.pv_steps.proofs.ActingLaws.{Moves, acted_passed, acted_weaken}
use Rattle.pv_walk.specs.Edits.{count_at}
use Rattle.pv_walk.specs.Preparing.{parent_file}
use Rattle.pv_walk.specs.Putting.{IsPutStep, Putting}
use Rattle.pv_walk.specs.Replacing.{Replacing, new_subtree}
use Rattle.pv_walk.specs.Removal.{Publishing}
use Rattle.pv_walk.specs.Staging.{IsPublishing, new_object}
use Rattle.pv_walk.proofs.PuttingOverLaws.{count_absent, count_over, cut_absent, over_acted, over_moved, over_putting, over_staged}
use Rattle.pv_layers.specs.Places.{etc}
use Rattle.pv_sysusers.specs.FileWriting.{most_directory}
use Rattle.pv_sysusers.proofs.DirectoryLaws.{etc_some}
use Rattle.pv_sysusers.proofs.TurnLaws.{comes_put, comes_staged}
use Rattle.pv_sysusers.proofs.file_writing.make_directory.Goals as goal
use Rattle.pv_path.proofs.Tests.{on_ok}

pub returns-in_err-stage_directory-clause-acted : goal.returns-in_err-stage_directory-clause-acted
returns-in_err-stage_directory-clause-acted g c =
    let t = g.T.Tree.state c.args.tree.now in
    acted_passed g.T.Tree c.stage_directory.result c.from_residual.result c.in_err-stage_directory.was c.from_residual.ensures.1
    (acted_weaken g.T.Tree (Replacing etc (new_subtree parent_file) t) (Putting etc parent_file t) (IsPutStep etc parent_file) (IsPutStep etc parent_file) 2 most_directory
    (over_putting etc t (g.met.T.Tree.is_tree c.args.tree.now) c.requires.absent parent_file) (λ s q. q) (omega arith)
    (over_staged g.T.Tree c.args.now etc etc_some parent_file c.args.tree.now c.stage_directory.new.tree c.stage_directory.ensures.acted))

pub returns-clause-ok : goal.returns-clause-ok
returns-clause-ok g c =
    let t = g.T.Tree.state c.args.tree.now in
    let u = g.T.Tree.state c.stage_directory.new.tree in
    on_ok c.publish.result
    (λ e. e ∙ ap (λ (p : Path). moved c.args.now (staging_of p) p (places u)) c.requires.path
    ∙ over_moved c.args.now etc etc_some parent_file t u c.in_ok-stage_directory.ensures.ok (g.met.T.Tree.is_tree c.args.tree.now) c.requires.free
    ∙ ap (λ (x : Places). made c.args.now etc (new_object parent_file c.args.now) x) (cut_absent etc t (g.met.T.Tree.is_tree c.args.tree.now) c.requires.absent))
    c.publish.ensures.moved

pub returns-clause-acted : goal.returns-clause-acted
returns-clause-acted g c =
    let moves : Moves g.T.Tree = record { stays = g.met.T.Tree.reaches_self; goes_on = g.met.T.Tree.reaches_on; never_falls = g.met.T.Tree.never_falls } in
    let t = g.T.Tree.state c.args.tree.now in
    let u = g.T.Tree.state c.stage_directory.new.tree in
    let fewer = count_over c.args.now etc etc_some parent_file t u c.in_ok-stage_directory.ensures.ok in
    let none = count_absent etc t (g.met.T.Tree.is_tree c.args.tree.now) c.requires.absent in
    let published = subst (λ (p : Path). Acted g.T.Tree (Publishing c.args.now p u) (IsPublishing p) (1 + count_at u p) c.args.now c.stage_directory.new.tree c.publish.new.tree c.publish.result) c.requires.path c.publish.ensures.acted in
    acted_weaken g.T.Tree (Replacing etc (new_subtree parent_file) t) (Putting etc parent_file t) (IsPutStep etc parent_file) (IsPutStep etc parent_file) (2 + (1 + count_at u etc)) most_directory
    (over_putting etc t (g.met.T.Tree.is_tree c.args.tree.now) c.requires.absent parent_file) (λ s q. q) (omega (arith, fewer, none))
    (over_acted g.T.Tree c.args.now etc etc_some parent_file c.args.tree.now c.stage_directory.new.tree moves c.in_ok-stage_directory.ensures.ok (g.met.T.Tree.is_tree c.args.tree.now).root (g.met.T.Tree.is_tree c.args.tree.now) c.requires.free
    c.in_ok-stage_directory.ensures.acted published)

pub returns-in_err-stage_directory-clause-below : goal.returns-in_err-stage_directory-clause-below
returns-in_err-stage_directory-clause-below g c =
    acted_passed g.T.Tree c.stage_directory.result c.from_residual.result c.in_err-stage_directory.was c.from_residual.ensures.1
    (comes_staged g.T.Tree most_directory (omega arith) c.stage_directory.ensures.acted)

pub returns-clause-below : goal.returns-clause-below
returns-clause-below g c =
    let moves : Moves g.T.Tree = record { stays = g.met.T.Tree.reaches_self; goes_on = g.met.T.Tree.reaches_on; never_falls = g.met.T.Tree.never_falls } in
    let t = g.T.Tree.state c.args.tree.now in
    let u = g.T.Tree.state c.stage_directory.new.tree in
    let fewer = count_over c.args.now etc etc_some parent_file t u c.in_ok-stage_directory.ensures.ok in
    let none = count_absent etc t (g.met.T.Tree.is_tree c.args.tree.now) c.requires.absent in
    let published = subst (λ (p : Path). Acted g.T.Tree (Publishing c.args.now p u) (IsPublishing p) (1 + count_at u p) c.args.now c.stage_directory.new.tree c.publish.new.tree c.publish.result) c.requires.path c.publish.ensures.acted in
    comes_put g.T.Tree moves most_directory (omega (arith, fewer, none)) c.in_ok-stage_directory.ensures.ok (g.met.T.Tree.is_tree c.args.tree.now) c.requires.free c.in_ok-stage_directory.ensures.acted published
