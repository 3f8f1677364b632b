use Rattle.std.proofs.Common.{refl, subst, sym}
use Rattle.pv_path.specs.Paths.{same_path}
use Rattle.pv_steps.specs.declared.step.Step.{Step}
use Rattle.pv_steps.specs.Trees.{places}
use Rattle.pv_steps.specs.Steps.{Can}
use Rattle.pv_steps.specs.Content.{Removes}
use Rattle.pv_steps.proofs.ActingLaws.{acted_tried}
use Rattle.pv_walk.specs.Removal.{removal_at, MayHaveGone}
use Rattle.pv_walk.proofs.PostOrderLaws.{tried_part}
use Rattle.pv_walk.proofs.Removing.{after_removal, removal_asks}
use Rattle.pv_walk.proofs.remove.remove.Goals as goal
use Rattle.pv_path.proofs.Tests.{on_ok}

pub try_step-requires : goal.try_step-requires
try_step-requires g c =
    let t = g.T.Tree.state c.args.tree.now in
    subst (λ (s : Step). Can (places t) s) (sym c.removal-step.ensures)
    (removal_asks c.args.now c.args.path t t refl c.requires.present c.requires.empty c.requires.not_root).can

pub returns-clause-gone : goal.returns-clause-gone
returns-clause-gone g c =
    let t = g.T.Tree.state c.args.tree.now in
    on_ok c.try_step.result (after_removal c.args.now c.args.path t t (g.T.Tree.state c.try_step.new.tree)) (rw c.removal-step.ensures at c.try_step.ensures.state)

pub returns-clause-acted : goal.returns-clause-acted
returns-clause-acted g c =
    let t = g.T.Tree.state c.args.tree.now in
    acted_tried g.T.Tree (MayHaveGone c.args.now c.args.path t) (Removes (same_path c.args.path)) (removal_at t c.args.path) c.args.now
    c.args.tree.now c.try_step.new.tree c.try_step.result (rw c.removal-step.ensures at c.try_step.ensures)
    (removal_asks c.args.now c.args.path t t refl c.requires.present c.requires.empty c.requires.not_root)

pub returns-clause-order : goal.returns-clause-order
returns-clause-order g c =
    tried_part g.T.Tree (removal_at (g.T.Tree.state c.args.tree.now) c.args.path) c.args.now c.args.tree.now c.try_step.new.tree c.try_step.result (rw c.removal-step.ensures at c.try_step.ensures)

pub returns-clause-whole : goal.returns-clause-whole
returns-clause-whole g c = rw c.removal-step.ensures at c.try_step.ensures.recorded
