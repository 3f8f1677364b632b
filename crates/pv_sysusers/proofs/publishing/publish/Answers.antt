use Rattle.std.proofs.Common.{ap, ◌∙◌, inl, inr, refl}
use Rattle.pv_path.specs.Paths.{staging_of}
use Rattle.pv_steps.specs.declared.node.Kind.TheVariants.{File}
use Rattle.pv_steps.specs.declared.step.Step.TheVariants.{Rename}
use Rattle.pv_steps.specs.Trees.{places}
use Rattle.pv_steps.specs.Steps.{after}
use Rattle.pv_steps.proofs.StepLaws.{at_after}
use Rattle.pv_steps.proofs.TreeLaws.{present_of_kind}
use Rattle.pv_steps.proofs.ActingLaws.{acted_tried}
use Rattle.pv_walk.specs.Removal.{MayHaveMoved}
use Rattle.pv_walk.proofs.PublishLaws.{moved_differs}
use Rattle.pv_walk.proofs.SweepLaws.{short_name}
use Rattle.pv_sysusers.specs.Edits.{PublishesEdit}
use Rattle.pv_sysusers.proofs.StagingLaws.{can_publish}
use Rattle.pv_sysusers.proofs.publishing.publish.Goals as goal
use Rattle.pv_path.proofs.Tests.{on_ok}

pub staging-requires-clause-short : goal.staging-requires-clause-short
staging-requires-clause-short g c = short_name c.args.edit.now.path c.requires.edit.short

pub try_step-requires : goal.try_step-requires
try_step-requires g c =
    rw (c.in_ok-staging.ensures, c.in_ok-copy.ensures) (can_publish c.args.edit.now c.requires.edit (places (g.T.Tree.state c.args.tree.now)) c.requires.directory c.requires.staged)

pub returns-clause-ok : goal.returns-clause-ok
returns-clause-ok g c =
    let t = g.T.Tree.state c.args.tree.now in
    let path = c.args.edit.now.path in
    let done = rw (c.in_ok-staging.ensures, c.in_ok-copy.ensures) at c.try_step.ensures.state in
    on_ok c.try_step.result (λ e. ap places e ∙ at_after t (Rename (staging_of path) path) c.args.now) done

pub returns-clause-acted : goal.returns-clause-acted
returns-clause-acted g c =
    let t = g.T.Tree.state c.args.tree.now in
    let path = c.args.edit.now.path in
    let s = Rename (staging_of path) path in
    let at = at_after t s c.args.now in
    let present = present_of_kind (places t) (staging_of path) File c.requires.staged.staged in
    acted_tried g.T.Tree (MayHaveMoved c.args.now path t) (PublishesEdit c.args.edit.now) s c.args.now c.args.tree.now c.try_step.new.tree c.try_step.result
    (rw (c.in_ok-staging.ensures, c.in_ok-copy.ensures) at c.try_step.ensures)
    (record {
      start = inl refl;
      can = can_publish c.args.edit.now c.requires.edit (places t) c.requires.directory c.requires.staged;
      busy = moved_differs c.args.now path c.requires.edit.root t (after t s c.args.now) present at;
      there = λ u e. inr (ap places e ∙ at);
      gives = refl;
    })
