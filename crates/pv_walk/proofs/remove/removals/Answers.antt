use Rattle.std.proofs.Common.{◌≡◌, [], ◌∷◌, ◌++◌, refl, sym, ap, ◌∙◌}
use Rattle.std.proofs.lemmas.List.{nil_from_length}
use Rattle.pv_steps.specs.declared.step.Step.{Step}
use Rattle.pv_walk.proofs.TakingLaws.{last_present, planning_end, planning_next, planning_start}
use Rattle.pv_walk.proofs.remove.removals.Goals as goal

pub loop-path-init : goal.loop-path-init
loop-path-init g c = planning_start (g.T.Tree.state c.args.tree.now) c.args.paths.items _ _ c.requires c.reverse.ensures.items c.in_ok-steps.ensures.items

pub removal_before-step-requires : goal.removal_before-step-requires
removal_before-step-requires g c =
    let t = g.T.Tree.state c.args.tree.now in
    last_present t c.pop.new.self.items c.last.result (rw c.deref.ensures.value at c.last.ensures.value)
    (planning_next t c.args.paths.items c.pop.new.self.items c.in-Some.path c.loop-path.steps.items _ (rw c.in-Some.ensures.items at c.loop-path.invariant) refl).present

pub loop-path-preserved : goal.loop-path-preserved
loop-path-preserved g c =
    planning_next (g.T.Tree.state c.args.tree.now) c.args.paths.items c.pop.new.self.items c.in-Some.path c.loop-path.steps.items _ (rw c.in-Some.ensures.items at c.loop-path.invariant)
    (c.in_ok-push.ensures.items ∙ ap (λ (s : Step). c.loop-path.steps.items ++ s ∷ []) c.removal_before-step.ensures)

pub returns : goal.returns
returns g c =
    let none : c.loop-path.left.items ≡ [] = nil_from_length c.loop-path.left.items (sym c.loop-path.left.ok.0 ∙ c.in_default.ensures.cases.0) in
    planning_end (g.T.Tree.state c.args.tree.now) c.args.paths.items c.loop-path.steps.items (rw none at c.loop-path.invariant)
