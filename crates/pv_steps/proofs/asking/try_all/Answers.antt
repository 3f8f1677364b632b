use Rattle.std.proofs.Common.{ap, ◌∙◌, reverse}
use Rattle.pv_steps.proofs.ActingLaws.{Moves}
use Rattle.pv_steps.proofs.TryingLaws.{reverse-last, trying_next, trying_fault}
use Rattle.pv_steps.proofs.asking.try_all.Goals as goal

pub loop-step-preserved : goal.loop-step-preserved
loop-step-preserved g c =
    let moves : Moves g.T.Tree = record { stays = g.met.T.Tree.reaches_self; goes_on = g.met.T.Tree.reaches_on; never_falls = g.met.T.Tree.never_falls } in
    let last = ap reverse c.in-Some.ensures.items ∙ reverse-last c.pop.new.self.items c.in-Some.step in
    trying_next g.T.Tree moves (reverse c.args.steps.items) (reverse c.pop.new.self.items) c.in-Some.step c.args.now c.args.tree.now c.loop-step.tree c.try_step.new.tree
    (rw last at c.loop-step.invariant) c.in_ok-try_step.ensures

pub returns-in_err-try_step : goal.returns-in_err-try_step
returns-in_err-try_step g c =
    let moves : Moves g.T.Tree = record { stays = g.met.T.Tree.reaches_self; goes_on = g.met.T.Tree.reaches_on; never_falls = g.met.T.Tree.never_falls } in
    let last = ap reverse c.in-Some.ensures.items ∙ reverse-last c.pop.new.self.items c.in-Some.step in
    trying_fault g.T.Tree moves (reverse c.args.steps.items) (reverse c.pop.new.self.items) c.in-Some.step c.args.now c.args.tree.now c.loop-step.tree c.try_step.new.tree
    (rw last at c.loop-step.invariant) _ c.try_step.result c.from_residual.result c.in_err-try_step.was c.from_residual.ensures.1 c.try_step.ensures
