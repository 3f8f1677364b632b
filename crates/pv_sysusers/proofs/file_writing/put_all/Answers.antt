use Rattle.std.proofs.Common.{◌+◌, ◌*◌, sym, ap, subst, ◌∙◌, arith, fold, length}
use Rattle.std.specs.List.{AllByRecursion}
use Rattle.pv_steps.specs.declared.node.Kind.TheVariants.{Directory}
use Rattle.pv_steps.specs.Trees.{IsKindIn, Places, places}
use Rattle.pv_steps.proofs.ActingLaws.{Moves, acted_passed, acted_then, acted_within}
use Rattle.pv_walk.specs.Putting.{Putting}
use Rattle.pv_walk.specs.Preparing.{parent_file}
use Rattle.pv_walk.proofs.Outcomes.{acted-tree}
use Rattle.pv_sysusers.specs.Edits.{IsFree, IsStaged, most_edited, most_staged, with_edit, with_published}
use Rattle.pv_layers.specs.Places.{etc}
use Rattle.pv_sysusers.specs.FileWriting.{AccountWay, IsAccountStep, PutsDirectory, directory_steps}
use Rattle.pv_sysusers.proofs.StagingLaws.{published_all}
use Rattle.pv_sysusers.proofs.FileWritingLaws.{IsNoDirectory, are_staged, directory_acted, directory_kept, files_put, frees_put, no_directories, published_acted, rooms, staged_acted}
use Rattle.pv_sysusers.specs.Turns.{InTurn}
use Rattle.pv_sysusers.proofs.TurnLaws.{turn_directory, turn_published, turn_staged}
use Rattle.pv_sysusers.proofs.file_writing.put_all.Goals as goal
use Rattle.pv_path.proofs.Tests.{on_ok}

pub returns-in_err-put_directory-clause-acted : goal.returns-in_err-put_directory-clause-acted
returns-in_err-put_directory-clause-acted g c =
    let edits = c.args.edits.now in
    let s = places (g.T.Tree.state c.args.tree.now) in
    acted_passed g.T.Tree c.put_directory.result c.from_residual.result c.in_err-put_directory.was c.from_residual.ensures.1
    (acted_within g.T.Tree (directory_steps s) (directory_steps s + most_edited * length edits) (omega arith) (directory_acted g.T.Tree edits c.args.tree.now c.requires.some c.put_directory.ensures.acted))

pub stage_all-requires-clause-free : goal.stage_all-requires-clause-free
stage_all-requires-clause-free g c =
    let edits = c.args.edits.now in
    let s = places (g.T.Tree.state c.args.tree.now) in
    subst (λ (x : Places). AllByRecursion (IsFree x) edits) (sym c.in_ok-put_directory.ensures.ok) (frees_put c.args.now s edits c.requires.edits c.requires.free)

pub returns-in_err-stage_all-clause-acted : goal.returns-in_err-stage_all-clause-acted
returns-in_err-stage_all-clause-acted g c =
    let moves : Moves g.T.Tree = record { stays = g.met.T.Tree.reaches_self; goes_on = g.met.T.Tree.reaches_on; never_falls = g.met.T.Tree.never_falls } in
    let edits = c.args.edits.now in
    let s = g.T.Tree.state c.args.tree.now in
    acted_passed g.T.Tree c.stage_all.result c.from_residual-in_err-stage_all.result c.in_err-stage_all.was c.from_residual-in_err-stage_all.ensures.1
    (acted_within g.T.Tree (directory_steps (places s) + most_staged * length edits) (directory_steps (places s) + most_edited * length edits) (omega arith)
    (acted_then g.T.Tree moves (AccountWay edits s) (IsAccountStep edits s) (directory_acted g.T.Tree edits c.args.tree.now c.requires.some c.in_ok-put_directory.ensures.acted)
    (staged_acted g.T.Tree edits c.args.tree.now c.requires.some c.in_ok-put_directory.ensures.ok c.stage_all.ensures.acted)))

pub publish_all-requires-clause-directory : goal.publish_all-requires-clause-directory
publish_all-requires-clause-directory g c =
    let edits = c.args.edits.now in
    let u = places (g.T.Tree.state c.put_directory.new.tree) in
    subst (λ (x : Places). IsKindIn Directory x etc) (sym c.in_ok-stage_all.ensures.ok) (directory_kept c.args.now edits c.requires.edits u c.in_ok-put_directory.ensures.directory)

pub publish_all-requires-clause-staged : goal.publish_all-requires-clause-staged
publish_all-requires-clause-staged g c =
    let edits = c.args.edits.now in
    let s = places (g.T.Tree.state c.args.tree.now) in
    let u = places (g.T.Tree.state c.put_directory.new.tree) in
    let file = subst (λ (x : Places). AllByRecursion (IsNoDirectory x) edits) (sym c.in_ok-put_directory.ensures.ok) (files_put c.args.now s edits c.requires.edits (no_directories s edits c.requires.files)) in
    subst (λ (x : Places). AllByRecursion (IsStaged x) edits) (sym c.in_ok-stage_all.ensures.ok) (are_staged c.args.now edits c.requires.edits u file)

pub returns-clause-ok : goal.returns-clause-ok
returns-clause-ok g c =
    let edits = c.args.edits.now in
    let s = places (g.T.Tree.state c.args.tree.now) in
    let u = places (g.T.Tree.state c.put_directory.new.tree) in
    let tree = acted-tree g.T.Tree (Putting etc parent_file (g.T.Tree.state c.args.tree.now)) (PutsDirectory (g.T.Tree.state c.args.tree.now)) c.ranges.now.fits (g.met.T.Tree.is_tree c.args.tree.now) c.in_ok-put_directory.ensures.acted in
    let file = subst (λ (x : Places). AllByRecursion (IsNoDirectory x) edits) (sym c.in_ok-put_directory.ensures.ok) (files_put c.args.now s edits c.requires.edits (no_directories s edits c.requires.files)) in
    let free = subst (λ (x : Places). AllByRecursion (IsFree x) edits) (sym c.in_ok-put_directory.ensures.ok) (frees_put c.args.now s edits c.requires.edits c.requires.free) in
    let room = rooms u tree edits c.requires.edits free file in
    on_ok c.publish_all.result (λ e. e ∙ ap (λ (x : Places). fold (with_published c.args.now) x edits) c.in_ok-stage_all.ensures.ok
    ∙ published_all c.args.now edits c.requires.edits u room ∙ ap (λ (x : Places). fold (with_edit c.args.now) x edits) c.in_ok-put_directory.ensures.ok) c.publish_all.ensures.ok

pub returns-clause-acted : goal.returns-clause-acted
returns-clause-acted g c =
    let moves : Moves g.T.Tree = record { stays = g.met.T.Tree.reaches_self; goes_on = g.met.T.Tree.reaches_on; never_falls = g.met.T.Tree.never_falls } in
    let edits = c.args.edits.now in
    let t = g.T.Tree.state c.args.tree.now in
    let s = places t in
    let u = places (g.T.Tree.state c.put_directory.new.tree) in
    let tree = acted-tree g.T.Tree (Putting etc parent_file t) (PutsDirectory t) c.ranges.now.fits (g.met.T.Tree.is_tree c.args.tree.now) c.in_ok-put_directory.ensures.acted in
    let file = subst (λ (x : Places). AllByRecursion (IsNoDirectory x) edits) (sym c.in_ok-put_directory.ensures.ok) (files_put c.args.now s edits c.requires.edits (no_directories s edits c.requires.files)) in
    let free = subst (λ (x : Places). AllByRecursion (IsFree x) edits) (sym c.in_ok-put_directory.ensures.ok) (frees_put c.args.now s edits c.requires.edits c.requires.free) in
    let room = rooms u tree edits c.requires.edits free file in
    acted_within g.T.Tree ((directory_steps s + most_staged * length edits) + length edits) (directory_steps s + most_edited * length edits) (omega arith)
    (acted_then g.T.Tree moves (AccountWay edits t) (IsAccountStep edits t)
    (acted_then g.T.Tree moves (AccountWay edits t) (IsAccountStep edits t) (directory_acted g.T.Tree edits c.args.tree.now c.requires.some c.in_ok-put_directory.ensures.acted)
    (staged_acted g.T.Tree edits c.args.tree.now c.requires.some c.in_ok-put_directory.ensures.ok c.in_ok-stage_all.ensures.acted))
    (published_acted g.T.Tree edits c.args.tree.now c.put_directory.new.tree c.requires.some c.requires.edits c.in_ok-put_directory.ensures.ok c.in_ok-stage_all.ensures.ok room c.publish_all.ensures.acted))

pub returns-in_err-put_directory-clause-turn : goal.returns-in_err-put_directory-clause-turn
returns-in_err-put_directory-clause-turn g c =
    let edits = c.args.edits.now in
    let s = places (g.T.Tree.state c.args.tree.now) in
    acted_passed g.T.Tree c.put_directory.result c.from_residual.result c.in_err-put_directory.was c.from_residual.ensures.1
    (acted_within g.T.Tree (directory_steps s) (directory_steps s + most_edited * length edits) (omega arith) (turn_directory g.T.Tree edits c.args.tree.now c.requires.edits c.requires.free c.put_directory.ensures.below))

pub returns-in_err-stage_all-clause-turn : goal.returns-in_err-stage_all-clause-turn
returns-in_err-stage_all-clause-turn g c =
    let moves : Moves g.T.Tree = record { stays = g.met.T.Tree.reaches_self; goes_on = g.met.T.Tree.reaches_on; never_falls = g.met.T.Tree.never_falls } in
    let edits = c.args.edits.now in
    let s = g.T.Tree.state c.args.tree.now in
    acted_passed g.T.Tree c.stage_all.result c.from_residual-in_err-stage_all.result c.in_err-stage_all.was c.from_residual-in_err-stage_all.ensures.1
    (acted_within g.T.Tree (directory_steps (places s) + most_staged * length edits) (directory_steps (places s) + most_edited * length edits) (omega arith)
    (acted_then g.T.Tree moves (InTurn edits) (IsAccountStep edits s) (turn_directory g.T.Tree edits c.args.tree.now c.requires.edits c.requires.free c.in_ok-put_directory.ensures.below)
    (turn_staged g.T.Tree edits c.args.tree.now c.stage_all.ensures.turn)))

pub returns-clause-turn : goal.returns-clause-turn
returns-clause-turn g c =
    let moves : Moves g.T.Tree = record { stays = g.met.T.Tree.reaches_self; goes_on = g.met.T.Tree.reaches_on; never_falls = g.met.T.Tree.never_falls } in
    let edits = c.args.edits.now in
    let t = g.T.Tree.state c.args.tree.now in
    let s = places t in
    let u = places (g.T.Tree.state c.put_directory.new.tree) in
    let tree = acted-tree g.T.Tree (Putting etc parent_file t) (PutsDirectory t) c.ranges.now.fits (g.met.T.Tree.is_tree c.args.tree.now) c.in_ok-put_directory.ensures.acted in
    let file = subst (λ (x : Places). AllByRecursion (IsNoDirectory x) edits) (sym c.in_ok-put_directory.ensures.ok) (files_put c.args.now s edits c.requires.edits (no_directories s edits c.requires.files)) in
    let free = subst (λ (x : Places). AllByRecursion (IsFree x) edits) (sym c.in_ok-put_directory.ensures.ok) (frees_put c.args.now s edits c.requires.edits c.requires.free) in
    let room = rooms u tree edits c.requires.edits free file in
    acted_within g.T.Tree ((directory_steps s + most_staged * length edits) + length edits) (directory_steps s + most_edited * length edits) (omega arith)
    (acted_then g.T.Tree moves (InTurn edits) (IsAccountStep edits t)
    (acted_then g.T.Tree moves (InTurn edits) (IsAccountStep edits t) (turn_directory g.T.Tree edits c.args.tree.now c.requires.edits c.requires.free c.in_ok-put_directory.ensures.below)
    (turn_staged g.T.Tree edits c.args.tree.now c.in_ok-stage_all.ensures.turn))
    (turn_published g.T.Tree edits c.args.tree.now c.put_directory.new.tree c.requires.edits free c.in_ok-stage_all.ensures.ok room c.publish_all.ensures.acted))
