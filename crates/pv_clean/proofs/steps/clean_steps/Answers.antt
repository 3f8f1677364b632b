use Rattle.std.proofs.Common.{◌≡◌, [], ◌∷◌, List, subst, sym, ◌∙◌}
use Rattle.std.proofs.lemmas.List.{nil_from_length}
use Rattle.pv_table.specs.Cleaned.{is_aged}
use Rattle.pv_clean.specs.Cleaning.{ArePlanned}
use Rattle.pv_steps.specs.declared.step.Step.{Step}
use Rattle.pv_clean.proofs.LevelLaws.{plan_start, planning_end, planning_next}
use Rattle.pv_clean.proofs.steps.clean_steps.Goals as goal

pub loop-next-init : goal.loop-next-init
loop-next-init g c = λ lines now are.
    plan_start lines now (g.T.Tree.state c.args.tree.now) c.args.judged.items _ _ _ c.requires c.new.ensures.items c.new-2.ensures.items c.new-steps.ensures.items are

pub loop-next-preserved : goal.loop-next-preserved
loop-next-preserved g c = λ lines now are.
    let t = g.T.Tree.state c.args.tree.now in
    let before = c.loop-next.invariant lines now are in
    record {
      listed = before.listed;
      whole = before.whole;
      falling = before.falling;
      planning = planning_next lines now t ([] ∷ before.listed) before.whole c.requires c.loop-next.left.items c.pop.new.self.items c.in-Some.next c.in-Some.ensures.items
          c.loop-next.levels.staying.items c.loop-next.levels.going.items c.loop-next.steps.items before.planning _ _ _
          c.in_ok-add_step.ensures.staying c.in_ok-add_step.ensures.going c.in_ok-add_step.ensures.steps;
    }

pub returns : goal.returns
returns g c = λ lines now are.
    let t = g.T.Tree.state c.args.tree.now in
    let before = c.loop-next.invariant lines now are in
    let none : c.loop-next.left.items ≡ [] = nil_from_length c.loop-next.left.items (sym c.loop-next.left.ok.0 ∙ c.in_default.ensures.cases.0) in
    subst (λ (steps : List Step). ArePlanned (is_aged lines now t) t steps) (sym c.reverse.ensures.items)
    (planning_end lines now t ([] ∷ before.listed) before.whole c.loop-next.left.items _ _ c.loop-next.steps.items none before.falling before.planning)
