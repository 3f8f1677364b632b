use Rattle.std.proofs.Common.{◌+◌, ◌*◌, inr, sym, ap, ◌∙◌, arith, fold, length}
use Rattle.pv_steps.specs.Trees.{Places, places}
use Rattle.pv_steps.specs.Content.{Removes}
use Rattle.pv_steps.proofs.ActingLaws.{Moves, acted_end, acted_passed, acted_then, acted_weaken, acted_within}
use Rattle.pv_walk.specs.Edits.{Pruned, all_taken}
use Rattle.pv_walk.specs.Preparing.{with_parent}
use Rattle.pv_walk.specs.Staging.{count_at_all, is_under_any}
use Rattle.pv_sysusers.specs.Edits.{most_edited, with_edit}
use Rattle.pv_layers.specs.Places.{etc}
use Rattle.pv_sysusers.specs.FileWriting.{AccountWay, IsAccountStep, directory_steps, most_put, swept_names}
use Rattle.pv_sysusers.proofs.FileWritingLaws.{directory_swept, files_swept, frees_swept, most_some, pass_swept, put_after, step_after, swept_acted, swept_same, with_some}
use Rattle.pv_sysusers.specs.Turns.{InTurn, TurnWay}
use Rattle.pv_sysusers.proofs.TurnLaws.{turn_swept}
use Rattle.pv_sysusers.proofs.file_writing.write_account_files.Goals as goal
use Rattle.pv_path.proofs.Tests.{on_ok}

pub returns-in_err-sweep_all-clause-acted : goal.returns-in_err-sweep_all-clause-acted
returns-in_err-sweep_all-clause-acted g c =
    let edits = c.args.edits.now in
    let t = g.T.Tree.state c.args.tree.now in
    acted_passed g.T.Tree c.sweep_all.result c.from_residual.result c.in_err-sweep_all.was c.from_residual.ensures.1
    (acted_within g.T.Tree (count_at_all t swept_names) (count_at_all t swept_names + most_put edits (places t)) (omega arith) (swept_acted g.T.Tree edits c.args.tree.now c.sweep_all.ensures.acted))

pub returns-in-empty-clause-acted : goal.returns-in-empty-clause-acted
returns-in-empty-clause-acted g c =
    let edits = c.args.edits.now in
    let t = g.T.Tree.state c.args.tree.now in
    acted_within g.T.Tree (count_at_all t swept_names) (count_at_all t swept_names + most_put edits (places t)) (omega arith) (swept_acted g.T.Tree edits c.args.tree.now c.in_ok-sweep_all.ensures.acted)

pub put_all-requires-clause-some : goal.put_all-requires-clause-some
put_all-requires-clause-some g c = c.in-len1-up.len_at_least

pub put_all-requires-clause-files : goal.put_all-requires-clause-files
put_all-requires-clause-files g c =
    let t = g.T.Tree.state c.args.tree.now in
    let u = g.T.Tree.state c.sweep_all.new.tree in
    let pruned = acted_end g.T.Tree (Pruned (is_under_any swept_names) t) (Removes (is_under_any swept_names)) c.in_ok-sweep_all.ensures.acted in
    files_swept t u (swept_same t u pruned) c.args.edits.now c.requires.files

pub put_all-requires-clause-pass : goal.put_all-requires-clause-pass
put_all-requires-clause-pass g c =
    let t = g.T.Tree.state c.args.tree.now in
    let u = g.T.Tree.state c.sweep_all.new.tree in
    let pruned = acted_end g.T.Tree (Pruned (is_under_any swept_names) t) (Removes (is_under_any swept_names)) c.in_ok-sweep_all.ensures.acted in
    pass_swept t u (swept_same t u pruned) c.requires.pass

pub put_all-requires-clause-free : goal.put_all-requires-clause-free
put_all-requires-clause-free g c =
    let t = g.T.Tree.state c.args.tree.now in
    let u = g.T.Tree.state c.sweep_all.new.tree in
    frees_swept (places t) (places u) c.args.edits.now c.requires.files c.in_ok-sweep_all.ensures.free

pub returns-in-len1-up-clause-ok : goal.returns-in-len1-up-clause-ok
returns-in-len1-up-clause-ok g c =
    let edits = c.args.edits.now in
    let t = places (g.T.Tree.state c.args.tree.now) in
    on_ok c.put_all.result (λ e. e ∙ ap (λ (x : Places). fold (with_edit c.args.now) (with_parent c.args.now x etc) edits) c.in_ok-sweep_all.ensures.ok
    ∙ ap (λ (x : Places). fold (with_edit c.args.now) x edits) (sym (with_some c.args.now edits (all_taken c.args.now swept_names t) c.in-len1-up.len_at_least))) c.put_all.ensures.ok

pub returns-in-len1-up-clause-acted : goal.returns-in-len1-up-clause-acted
returns-in-len1-up-clause-acted g c =
    let moves : Moves g.T.Tree = record { stays = g.met.T.Tree.reaches_self; goes_on = g.met.T.Tree.reaches_on; never_falls = g.met.T.Tree.never_falls } in
    let edits = c.args.edits.now in
    let t = g.T.Tree.state c.args.tree.now in
    let u = g.T.Tree.state c.sweep_all.new.tree in
    let pruned = acted_end g.T.Tree (Pruned (is_under_any swept_names) t) (Removes (is_under_any swept_names)) c.in_ok-sweep_all.ensures.acted in
    acted_within g.T.Tree (count_at_all t swept_names + (directory_steps (places u) + most_edited * length edits)) (count_at_all t swept_names + most_put edits (places t))
    (omega (arith, most_some edits (places t) c.in-len1-up.len_at_least, directory_swept t u (swept_same t u pruned)))
    (acted_then g.T.Tree moves (AccountWay edits t) (IsAccountStep edits t) (swept_acted g.T.Tree edits c.args.tree.now c.in_ok-sweep_all.ensures.acted)
    (put_after g.T.Tree edits c.args.tree.now (swept_same t u pruned) c.put_all.ensures.acted))

pub returns-in_err-sweep_all-clause-turn : goal.returns-in_err-sweep_all-clause-turn
returns-in_err-sweep_all-clause-turn g c =
    let edits = c.args.edits.now in
    let t = g.T.Tree.state c.args.tree.now in
    acted_passed g.T.Tree c.sweep_all.result c.from_residual.result c.in_err-sweep_all.was c.from_residual.ensures.1
    (turn_swept g.T.Tree edits c.args.tree.now (λ s q. IsAccountStep.sweeps q) (count_at_all t swept_names + most_put edits (places t)) (omega arith) c.sweep_all.ensures.acted)

pub returns-in-empty-clause-turn : goal.returns-in-empty-clause-turn
returns-in-empty-clause-turn g c =
    let edits = c.args.edits.now in
    let t = g.T.Tree.state c.args.tree.now in
    turn_swept g.T.Tree edits c.args.tree.now (λ s q. IsAccountStep.sweeps q) (count_at_all t swept_names + most_put edits (places t)) (omega arith) c.in_ok-sweep_all.ensures.acted

pub returns-in-len1-up-clause-turn : goal.returns-in-len1-up-clause-turn
returns-in-len1-up-clause-turn g c =
    let moves : Moves g.T.Tree = record { stays = g.met.T.Tree.reaches_self; goes_on = g.met.T.Tree.reaches_on; never_falls = g.met.T.Tree.never_falls } in
    let edits = c.args.edits.now in
    let t = g.T.Tree.state c.args.tree.now in
    let u = g.T.Tree.state c.sweep_all.new.tree in
    let pruned = acted_end g.T.Tree (Pruned (is_under_any swept_names) t) (Removes (is_under_any swept_names)) c.in_ok-sweep_all.ensures.acted in
    let most = directory_steps (places u) + most_edited * length edits in
    acted_within g.T.Tree (count_at_all t swept_names + most) (count_at_all t swept_names + most_put edits (places t))
    (omega (arith, most_some edits (places t) c.in-len1-up.len_at_least, directory_swept t u (swept_same t u pruned)))
    (acted_then g.T.Tree moves (TurnWay edits t) (IsAccountStep edits t)
    (turn_swept g.T.Tree edits c.args.tree.now (λ s q. IsAccountStep.sweeps q) (count_at_all t swept_names) (omega arith) c.in_ok-sweep_all.ensures.acted)
    (acted_weaken g.T.Tree (InTurn edits) (TurnWay edits t) (IsAccountStep edits u) (IsAccountStep edits t) most most (λ v h. inr h) (step_after edits t u (swept_same t u pruned)) (omega arith) c.put_all.ensures.turn))
