use Rattle.pv_steps.proofs.ActingLaws.{Moves, well, no_memory, acted_none}
use Rattle.pv_walk.proofs.SweepOrderLaws.{takes_stop}
use Rattle.pv_walk.proofs.SweepLaws.{nothing_taken}
use Rattle.pv_walk.specs.Staging.{staging_names, is_under_any, count_at_all}
use Rattle.pv_walk.specs.Edits.{Pruned}
use Rattle.pv_steps.specs.Content.{Removes}
use Rattle.pv_steps.specs.Trees.{places}
use Rattle.std.proofs.Common.{refl, inr, sym, ◌∙◌, []}
use Rattle.std.proofs.lemmas.Result.{IfOk-from_err}
use Rattle.pv_walk.proofs.sweeping.sweep.Goals as goal

pub returns-in_err-has_staged-clause-taken : goal.returns-in_err-has_staged-clause-taken
returns-in_err-has_staged-clause-taken g c = IfOk-from_err c.from_residual.result _ c.from_residual.ensures.0

pub returns-clause-taken : goal.returns-clause-taken
returns-clause-taken g c = c.sweep_each.ensures.taken

pub returns-clause-acted : goal.returns-clause-acted
returns-clause-acted g c = c.sweep_each.ensures.acted

pub returns-clause-order : goal.returns-clause-order
returns-clause-order g c = c.sweep_each.ensures.order

pub returns-in_err-has_staged-clause-acted : goal.returns-in_err-has_staged-clause-acted
returns-in_err-has_staged-clause-acted g c =
    let moves : Moves g.T.Tree = record { stays = g.met.T.Tree.reaches_self; goes_on = g.met.T.Tree.reaches_on; never_falls = g.met.T.Tree.never_falls } in
    let t = g.T.Tree.state c.args.tree.now in
    let names = staging_names c.args.path.now in
    acted_none g.T.Tree moves (Pruned (is_under_any names) t) (Removes (is_under_any names)) (count_at_all t names) c.args.now c.args.tree.now c.from_residual.result (no_memory c.from_residual.result c.from_residual.ensures.1)
    (record { outside = λ q e. refl; within = λ q e. inr refl })

pub returns-in_err-has_staged-clause-order : goal.returns-in_err-has_staged-clause-order
returns-in_err-has_staged-clause-order g c = takes_stop (g.T.Tree.state c.args.tree.now) [] (staging_names c.args.path.now) (g.T.Tree.steps c.args.tree.now) (g.T.Tree.steps c.args.tree.now) refl

pub returns-then-not-branch-clause-acted : goal.returns-then-not-branch-clause-acted
returns-then-not-branch-clause-acted g c =
    let moves : Moves g.T.Tree = record { stays = g.met.T.Tree.reaches_self; goes_on = g.met.T.Tree.reaches_on; never_falls = g.met.T.Tree.never_falls } in
    let t = g.T.Tree.state c.args.tree.now in
    let names = staging_names c.args.path.now in
    acted_none g.T.Tree moves (Pruned (is_under_any names) t) (Removes (is_under_any names)) (count_at_all t names) c.args.now c.args.tree.now well refl
    (record { outside = λ q e. refl; within = λ q e. inr refl })

pub returns-then-not-branch-clause-order : goal.returns-then-not-branch-clause-order
returns-then-not-branch-clause-order g c = takes_stop (g.T.Tree.state c.args.tree.now) [] (staging_names c.args.path.now) (g.T.Tree.steps c.args.tree.now) (g.T.Tree.steps c.args.tree.now) refl

pub returns-then-not-branch-clause-taken : goal.returns-then-not-branch-clause-taken
returns-then-not-branch-clause-taken g c = sym (nothing_taken c.args.now (staging_names c.args.path.now) (places (g.T.Tree.state c.args.tree.now)) (sym c.in_ok-has_staged.ensures ∙ c.if-not-branch.true))
