use Rattle.std.proofs.Common.{◌+◌, ◌*◌, ◌∙◌, arith}
use Rattle.pv_path.proofs.PathLaws.{is_prefix-refl}
use Rattle.pv_steps.proofs.ActingLaws.{Moves, acted_within, acted_passed}
use Rattle.pv_walk.specs.Staging.{staging_names, count_at_all, most_new}
use Rattle.pv_walk.specs.Preparing.{parent_count}
use Rattle.pv_walk.proofs.PreparingSweep.{swept_here, swept_along, swept_same, swept_acted, prepared_acted, same_pass, same_parent_count}
use Rattle.pv_walk.proofs.preparing.prepare.Goals as goal
use Rattle.pv_path.proofs.Tests.{on_ok}

pub sweep-requires : goal.sweep-requires
sweep-requires g c = c.requires.short

pub put_parents-requires-clause-pass : goal.put_parents-requires-clause-pass
put_parents-requires-clause-pass g c =
    let t = g.T.Tree.state c.args.tree.now in
    same_pass c.args.path.now c.requires.unstaged t (g.T.Tree.state c.sweep.new.tree) (swept_same g.T.Tree c.args.path.now c.sweep.ensures.acted)
    c.requires.pass

pub put_parents-requires-clause-swept : goal.put_parents-requires-clause-swept
put_parents-requires-clause-swept g c = swept_along c.args.now c.args.path.now (g.T.Tree.state c.args.tree.now) (g.T.Tree.state c.sweep.new.tree) c.in_ok-sweep.ensures.taken

pub returns-clause-here : goal.returns-clause-here
returns-clause-here g c =
    on_ok c.put_parents.result
    (λ e. e ∙ swept_here c.args.now c.args.path.now c.requires.unstaged (g.T.Tree.state c.args.tree.now) (g.T.Tree.state c.sweep.new.tree) c.in_ok-sweep.ensures.taken)
    c.put_parents.ensures.here

pub returns-clause-free : goal.returns-clause-free
returns-clause-free g c = on_ok c.put_parents.result (λ swept some. swept c.args.path.now some (is_prefix-refl c.args.path.now)) c.put_parents.ensures.swept

pub returns-in_err-sweep-clause-acted : goal.returns-in_err-sweep-clause-acted
returns-in_err-sweep-clause-acted g c =
    let t = g.T.Tree.state c.args.tree.now in
    let path = c.args.path.now in
    let count = count_at_all t (staging_names path) in
    acted_passed g.T.Tree c.sweep.result c.from_residual.result c.in_err-sweep.was c.from_residual.ensures.1
    (acted_within g.T.Tree count (count + most_new * parent_count path t) (omega arith) (swept_acted g.T.Tree path c.sweep.ensures.acted))

pub returns-clause-acted : goal.returns-clause-acted
returns-clause-acted g c =
    let moves : Moves g.T.Tree = record { stays = g.met.T.Tree.reaches_self; goes_on = g.met.T.Tree.reaches_on; never_falls = g.met.T.Tree.never_falls } in
    let t = g.T.Tree.state c.args.tree.now in
    let u = g.T.Tree.state c.sweep.new.tree in
    let path = c.args.path.now in
    let count = count_at_all t (staging_names path) in
    let same = same_parent_count path c.requires.unstaged t u (swept_same g.T.Tree path c.sweep.ensures.acted) in
    acted_within g.T.Tree (count + most_new * parent_count path u) (count + most_new * parent_count path t) (omega (arith, same))
    (prepared_acted g.T.Tree path moves c.requires.unstaged c.in_ok-sweep.ensures.acted c.put_parents.ensures.acted)
