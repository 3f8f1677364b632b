use Rattle.std.proofs.Common.{refl, sym, ap, subst, ◌∙◌, arith}
use Rattle.pv_path.specs.Paths.{is_prefix}
use Rattle.pv_path.proofs.PathLaws.{not_prefix_not_same}
use Rattle.pv_steps.specs.Acting.{Acted}
use Rattle.pv_steps.specs.Steps.{made}
use Rattle.pv_steps.specs.Trees.{places}
use Rattle.pv_steps.proofs.ActingLaws.{Moves, no_memory, acted_none, acted_weaken}
use Rattle.pv_walk.specs.Edits.{SameOutside}
use Rattle.pv_walk.specs.declared.new_file.NewKind.{NewKind}
use Rattle.pv_walk.specs.Making.{Beginning, BeginsNew, held_object}
use Rattle.pv_walk.specs.Staging.{GivesNew, HasTarget}
use Rattle.pv_walk.proofs.StageLaws.{begins_gives, begun_start}
use Rattle.pv_walk.proofs.stage.put_held.Goals as goal
use Rattle.pv_path.proofs.Tests.{on_ok}

pub begin-requires-clause-target : goal.begin-requires-clause-target
begin-requires-clause-target g c = subst HasTarget (sym c.in_ok-copy.ensures) c.requires.new.target

pub returns-in_err-copy-clause-acted : goal.returns-in_err-copy-clause-acted
returns-in_err-copy-clause-acted g c =
    let moves : Moves g.T.Tree = record { stays = g.met.T.Tree.reaches_self; goes_on = g.met.T.Tree.reaches_on; never_falls = g.met.T.Tree.never_falls } in
    let t = g.T.Tree.state c.args.tree.now in
    let path = c.args.path.now in
    acted_none g.T.Tree moves (SameOutside (is_prefix path) t) (GivesNew path c.args.new.now) 2 c.args.now c.args.tree.now
    c.from_residual.result (no_memory c.from_residual.result c.from_residual.ensures.1) (λ q e. refl)

pub returns-in_err-copy-clause-begun : goal.returns-in_err-copy-clause-begun
returns-in_err-copy-clause-begun g c =
    let moves : Moves g.T.Tree = record { stays = g.met.T.Tree.reaches_self; goes_on = g.met.T.Tree.reaches_on; never_falls = g.met.T.Tree.never_falls } in
    let t = g.T.Tree.state c.args.tree.now in
    let path = c.args.path.now in
    acted_none g.T.Tree moves (Beginning path c.args.new.now.what t) (GivesNew path c.args.new.now) 2 c.args.now c.args.tree.now
    c.from_residual.result (no_memory c.from_residual.result c.from_residual.ensures.1) (begun_start path c.requires.not_root c.args.now t c.requires.room c.args.new.now.what)

pub returns-clause-ok : goal.returns-clause-ok
returns-clause-ok g c =
    let t = g.T.Tree.state c.args.tree.now in
    on_ok c.begin.result (λ e. e ∙ ap (λ (w : NewKind). made c.args.now c.args.path.now (held_object w c.args.now) (places t)) c.in_ok-copy.ensures) c.begin.ensures.ok

pub returns-clause-acted : goal.returns-clause-acted
returns-clause-acted g c =
    let t = g.T.Tree.state c.args.tree.now in
    let path = c.args.path.now in
    let file = c.args.new.now in
    acted_weaken g.T.Tree (Beginning path file.what t) (SameOutside (is_prefix path) t) (BeginsNew path file.what) (GivesNew path file) 2 2
    (λ u h q e. h.outside q (not_prefix_not_same path q e)) (begins_gives path file) (omega arith)
    (subst (λ (w : NewKind). Acted g.T.Tree (Beginning path w t) (BeginsNew path w) 2 c.args.now c.args.tree.now c.begin.new.tree c.begin.result) c.in_ok-copy.ensures c.begin.ensures.acted)

pub returns-clause-begun : goal.returns-clause-begun
returns-clause-begun g c =
    let t = g.T.Tree.state c.args.tree.now in
    let path = c.args.path.now in
    let file = c.args.new.now in
    acted_weaken g.T.Tree (Beginning path file.what t) (Beginning path file.what t) (BeginsNew path file.what) (GivesNew path file) 2 2
    (λ u h. h) (begins_gives path file) (omega arith)
    (subst (λ (w : NewKind). Acted g.T.Tree (Beginning path w t) (BeginsNew path w) 2 c.args.now c.args.tree.now c.begin.new.tree c.begin.result) c.in_ok-copy.ensures c.begin.ensures.acted)
