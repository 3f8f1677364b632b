use Rattle.std.proofs.Common.{sym, subst, ◌∙◌, arith, length, List}
use Rattle.std.specs.List.{AllByRecursion}
use Rattle.pv_path.specs.Paths.{staging_of}
use Rattle.pv_steps.specs.declared.node.Kind.TheVariants.{Directory}
use Rattle.pv_steps.specs.Trees.{IsKindIn, Places, places}
use Rattle.pv_steps.specs.Acting.{Acted}
use Rattle.pv_steps.proofs.ActingLaws.{Moves, acted_within, acted_passed}
use Rattle.pv_sysusers.specs.declared.edit.Edit.{Edit}
use Rattle.pv_sysusers.specs.Edits.{AreEdits, IsOfSome, IsStaged, Published, PublishesEdit}
use Rattle.pv_layers.specs.Places.{etc}
use Rattle.pv_sysusers.proofs.StagingLaws.{outside_parent, published_kind, stage_some, stage_up, stageds_after}
use Rattle.pv_sysusers.proofs.ActedLaws.{fewer, others, parted, published_more, published_one}
use Rattle.pv_sysusers.proofs.publishing.+publish_all.Goals as goal

pub returns-in_err-publish-in-len1-up-clause-acted : goal.returns-in_err-publish-in-len1-up-clause-acted
returns-in_err-publish-in-len1-up-clause-acted g t c =
    let xs = c.args.edits.now in
    let s = g.T.Tree.state c.args.tree.now in
    let split = parted xs c.edit-item.result c.edit-item.is c.in-len1-up.len_at_least in
    acted_passed g.T.Tree c.publish.result c.from_residual.result c.in_err-publish-in-len1-up.was c.from_residual.ensures.1
    (subst (λ (ys : List Edit). Acted g.T.Tree (Published c.args.now ys s) (IsOfSome PublishesEdit ys) (length xs) c.args.now c.args.tree.now c.publish.new.tree c.publish.result) (sym split)
    (acted_within g.T.Tree 1 (length xs) c.in-len1-up.len_at_least (published_one g.T.Tree c.args.now c.edit-item.result (others xs) c.publish.ensures.acted)))

pub publish_all-requires : goal.publish_all-requires
publish_all-requires g t c κs within =
    let xs = c.args.edits.now in
    let edit = c.edit-item.result in
    let split = parted xs edit c.edit-item.is c.in-len1-up.len_at_least in
    let s = places (g.T.Tree.state c.args.tree.now) in
    let are = subst AreEdits split c.requires.edits in
    let staged = subst (AllByRecursion (IsStaged s)) split c.requires.staged in
    let is = c.in_ok-publish-in-len1-up.ensures.ok in
    let lt = fewer xs edit split in (
      omega (arith, lt, c.decreases),
      (
        within,
        (
          are.1.1,
          (
            subst (λ (x : Places). IsKindIn Directory x etc) (sym is) (published_kind edit are.0 c.args.now s etc (outside_parent edit are.0 edit.path are.0.root are.0.parent) (outside_parent edit are.0 (staging_of edit.path) (stage_some edit are.0) (stage_up edit are.0)) ∙ c.requires.directory),
            subst (λ (x : Places). AllByRecursion (IsStaged x) (others xs)) (sym is) (stageds_after c.args.now edit (others xs) are.0 are.1.0 are.1.1 s staged.1),
          ),
        ),
      ),
    )

pub returns-in_ok-publish-in-len1-up-clause-acted : goal.returns-in_ok-publish-in-len1-up-clause-acted
returns-in_ok-publish-in-len1-up-clause-acted g t c =
    let moves : Moves g.T.Tree = record { stays = g.met.T.Tree.reaches_self; goes_on = g.met.T.Tree.reaches_on; never_falls = g.met.T.Tree.never_falls } in
    let xs = c.args.edits.now in
    let s = g.T.Tree.state c.args.tree.now in
    let split = parted xs c.edit-item.result c.edit-item.is c.in-len1-up.len_at_least in
    subst (λ (ys : List Edit). Acted g.T.Tree (Published c.args.now ys s) (IsOfSome PublishesEdit ys) (length ys) c.args.now c.args.tree.now c.publish_all.new.tree c.publish_all.result) (sym split)
    (published_more g.T.Tree c.args.now c.edit-item.result (others xs) moves c.in_ok-publish-in-len1-up.ensures.ok c.in_ok-publish-in-len1-up.ensures.acted c.publish_all.ensures.acted)
