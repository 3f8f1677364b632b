use Rattle.std.proofs.Common.{refl, ap, ◌∙◌, arith, length, reverse}
use Rattle.std.proofs.lemmas.List.{length-reverse}
use Rattle.pv_steps.proofs.ActingLaws.{acted_within}
use Rattle.pv_steps.proofs.TryingLaws.{acted_all, ask_can, tried_whole}
use Rattle.pv_walk.specs.Edits.{Pruned}
use Rattle.pv_walk.specs.PostOrder.{DoesInPostOrder}
use Rattle.pv_table.specs.Cleaned.{is_aged}
use Rattle.pv_clean.specs.Cleaning.{most_steps, IsCleanStep}
use Rattle.pv_clean.proofs.CleanLaws.{aged_together, tried_in_order, tried_told}
use Rattle.pv_clean.proofs.TurnLaws.{none_in_turn, tried_in_turn}
use Rattle.pv_clean.proofs.CleanSteps.{planned_ask, planned_end, planned_exact}
use Rattle.pv_clean.proofs.cleaning.clean.Goals as goal
use Rattle.pv_path.proofs.Tests.{on_ok}

pub try_all-requires : goal.try_all-requires
try_all-requires g c =
    let t = g.T.Tree.state c.args.tree.now in
    let goes = is_aged c.args.table.now c.args.now t in
    let plan = c.in_ok-steps.ensures c.args.table.now c.args.now c.in_ok-judged.ensures.judged in
    let steps = c.in_ok-steps.steps.items in
    ask_can (Pruned goes t) (IsCleanStep goes t) c.args.now t (reverse steps)
    (planned_ask goes t c.args.now steps plan (aged_together c.args.table.now c.args.now t))

pub returns-clause-ok : goal.returns-clause-ok
returns-clause-ok g c =
    let t = g.T.Tree.state c.args.tree.now in
    let goes = is_aged c.args.table.now c.args.now t in
    let plan = c.in_ok-steps.ensures c.args.table.now c.args.now c.in_ok-judged.ensures.judged in
    let steps = c.in_ok-steps.steps.items in
    let whole = aged_together c.args.table.now c.args.now t in
    on_ok c.try_all.result
    (λ e. planned_end goes t c.args.now steps plan whole (g.T.Tree.state c.try_all.new.tree) e)
    (tried_whole g.T.Tree (reverse steps) c.args.now c.args.tree.now c.try_all.new.tree c.try_all.result c.try_all.ensures)

pub returns-clause-exact : goal.returns-clause-exact
returns-clause-exact g c =
    let t = g.T.Tree.state c.args.tree.now in
    let goes = is_aged c.args.table.now c.args.now t in
    let plan = c.in_ok-steps.ensures c.args.table.now c.args.now c.in_ok-judged.ensures.judged in
    let steps = c.in_ok-steps.steps.items in
    on_ok c.try_all.result
    (λ stated. ap length stated ∙ length-reverse steps ∙ planned_exact goes t steps plan)
    (tried_told g.T.Tree (reverse steps) c.args.now c.args.tree.now c.try_all.new.tree c.try_all.result c.try_all.ensures)

pub returns-clause-acted : goal.returns-clause-acted
returns-clause-acted g c =
    let t = g.T.Tree.state c.args.tree.now in
    let goes = is_aged c.args.table.now c.args.now t in
    let plan = c.in_ok-steps.ensures c.args.table.now c.args.now c.in_ok-judged.ensures.judged in
    let steps = c.in_ok-steps.steps.items in
    let whole = aged_together c.args.table.now c.args.now t in
    let number = planned_exact goes t steps plan in
    acted_within g.T.Tree (length (reverse steps)) (most_steps goes t) (omega (arith, length-reverse steps, number))
    (acted_all (Pruned goes t) (IsCleanStep goes t) c.args.now g.T.Tree (reverse steps) c.args.tree.now c.try_all.new.tree c.try_all.result c.try_all.ensures
    (planned_ask goes t c.args.now steps plan whole))

pub returns-in_err-judged-clause-order : goal.returns-in_err-judged-clause-order
returns-in_err-judged-clause-order g c = DoesInPostOrder.nothing refl

pub returns-in_err-steps-clause-order : goal.returns-in_err-steps-clause-order
returns-in_err-steps-clause-order g c = DoesInPostOrder.nothing refl

pub returns-clause-order : goal.returns-clause-order
returns-clause-order g c =
    let t = g.T.Tree.state c.args.tree.now in
    let goes = is_aged c.args.table.now c.args.now t in
    let plan = c.in_ok-steps.ensures c.args.table.now c.args.now c.in_ok-judged.ensures.judged in
    tried_in_order g.T.Tree goes c.args.now c.in_ok-steps.steps.items c.args.tree.now c.try_all.new.tree c.try_all.result plan c.try_all.ensures

pub returns-in_err-judged-clause-in_turn : goal.returns-in_err-judged-clause-in_turn
returns-in_err-judged-clause-in_turn g c = none_in_turn c.args.now (g.T.Tree.state c.args.tree.now) (g.T.Tree.steps c.args.tree.now)

pub returns-in_err-steps-clause-in_turn : goal.returns-in_err-steps-clause-in_turn
returns-in_err-steps-clause-in_turn g c = none_in_turn c.args.now (g.T.Tree.state c.args.tree.now) (g.T.Tree.steps c.args.tree.now)

pub returns-clause-in_turn : goal.returns-clause-in_turn
returns-clause-in_turn g c =
    let t = g.T.Tree.state c.args.tree.now in
    let goes = is_aged c.args.table.now c.args.now t in
    let plan = c.in_ok-steps.ensures c.args.table.now c.args.now c.in_ok-judged.ensures.judged in
    tried_in_turn g.T.Tree goes c.args.now c.in_ok-steps.steps.items c.args.tree.now c.try_all.new.tree c.try_all.result plan
    (aged_together c.args.table.now c.args.now t) plan.gathered c.try_all.ensures
