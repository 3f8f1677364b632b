use Rattle.std.proofs.Common.{ap, subst, ◌∙◌, inl, inr, refl}
use Rattle.pv_path.specs.Paths.{Path}
use Rattle.pv_steps.specs.declared.step.Step.TheVariants.{Rename}
use Rattle.pv_steps.specs.Trees.{places, IsPresent}
use Rattle.pv_steps.specs.Steps.{after, moved}
use Rattle.pv_steps.proofs.StepLaws.{at_after}
use Rattle.pv_steps.proofs.ActingLaws.{acted_tried}
use Rattle.pv_walk.specs.Staging.{IsPublishing}
use Rattle.pv_walk.specs.Removal.{MayHaveMoved}
use Rattle.pv_walk.proofs.PostOrderLaws.{tried_one}
use Rattle.pv_walk.proofs.PublishLaws.{moved_differs}
use Rattle.pv_walk.proofs.publishing.rename.Goals as goal
use Rattle.pv_path.proofs.Tests.{on_ok}

pub returns-clause-moved : goal.returns-clause-moved
returns-clause-moved g c =
    on_ok c.try_step.result (λ e. ap places e ∙ at_after (g.T.Tree.state c.args.tree.now) (Rename c.args.stage c.args.path) c.args.now) c.try_step.ensures.state

pub returns-clause-acted : goal.returns-clause-acted
returns-clause-acted g c =
    let t = g.T.Tree.state c.args.tree.now in
    let s = Rename c.args.stage c.args.path in
    let at = at_after t s c.args.now ∙ ap (λ (p : Path). moved c.args.now p c.args.path (places t)) c.requires.stage in
    let present = subst (IsPresent t) c.requires.stage c.requires.movable.present in
    acted_tried g.T.Tree (MayHaveMoved c.args.now c.args.path t) (IsPublishing c.args.path) s c.args.now c.args.tree.now c.try_step.new.tree c.try_step.result c.try_step.ensures
    (record {
      start = inl refl;
      can = c.requires.movable;
      busy = moved_differs c.args.now c.args.path c.requires.not_root t (after t s c.args.now) present at;
      there = λ u e. inr (ap places e ∙ at);
      gives = (c.requires.stage, refl);
    })

pub returns-clause-order : goal.returns-clause-order
returns-clause-order g c = tried_one g.T.Tree (Rename c.args.stage c.args.path) c.args.now c.args.tree.now c.try_step.new.tree c.try_step.result c.try_step.ensures
