use Rattle.std.proofs.Common.{◌*◌, sym, subst, ◌∙◌, arith, length, List}
use Rattle.std.specs.List.{AllByRecursion}
use Rattle.pv_steps.specs.Same.{Same}
use Rattle.pv_steps.specs.declared.node.Kind.TheVariants.{Directory}
use Rattle.pv_steps.specs.Trees.{IsKindIn, Places, places}
use Rattle.pv_steps.specs.Acting.{Acted}
use Rattle.pv_steps.proofs.ActingLaws.{Moves, acted_within, acted_passed}
use Rattle.pv_sysusers.specs.declared.edit.Edit.{Edit}
use Rattle.pv_sysusers.specs.Edits.{AreEdits, IsFree, IsOfSome, StagesEdit, most_staged}
use Rattle.pv_layers.specs.Places.{etc}
use Rattle.pv_sysusers.proofs.StagingLaws.{frees_after, staged_directory}
use Rattle.pv_sysusers.proofs.ActedLaws.{fewer, others, parted, staged_more, staged_one}
use Rattle.pv_sysusers.specs.Turns.{StagingSome}
use Rattle.pv_sysusers.proofs.TurnLaws.{some_more_acted, some_one_acted}
use Rattle.pv_sysusers.proofs.staging.+stage_all.Goals as goal

pub returns-in_err-stage-in-len1-up-clause-acted : goal.returns-in_err-stage-in-len1-up-clause-acted
returns-in_err-stage-in-len1-up-clause-acted g t c =
    let xs = c.args.edits.now in
    let s = g.T.Tree.state c.args.tree.now in
    let split = parted xs c.edit-item.result c.edit-item.is c.in-len1-up.len_at_least in
    acted_passed g.T.Tree c.stage.result c.from_residual.result c.in_err-stage-in-len1-up.was c.from_residual.ensures.1
    (subst (λ (ys : List Edit). Acted g.T.Tree (Same s) (IsOfSome StagesEdit ys) (most_staged * length xs) c.args.now c.args.tree.now c.stage.new.tree c.stage.result) (sym split)
    (acted_within g.T.Tree most_staged (most_staged * length xs) (omega (arith, c.in-len1-up.len_at_least)) (staged_one g.T.Tree c.args.now c.edit-item.result (others xs) c.stage.ensures.acted)))

pub stage_all-requires : goal.stage_all-requires
stage_all-requires g t c κs within =
    let xs = c.args.edits.now in
    let edit = c.edit-item.result in
    let split = parted xs edit c.edit-item.is c.in-len1-up.len_at_least in
    let s = places (g.T.Tree.state c.args.tree.now) in
    let are = subst AreEdits split c.requires.edits in
    let free = subst (AllByRecursion (IsFree s)) split c.requires.free in
    let is = c.in_ok-stage-in-len1-up.ensures.ok in
    let lt = fewer xs edit split in (
      omega (arith, lt, c.decreases),
      (
        within,
        (
          are.1.1,
          (
            subst (λ (x : Places). IsKindIn Directory x etc) (sym is) (staged_directory edit are.0 c.args.now s ∙ c.requires.directory),
            subst (λ (x : Places). AllByRecursion (IsFree x) (others xs)) (sym is) (frees_after c.args.now edit (others xs) are.0 are.1.0 are.1.1 s free.1),
          ),
        ),
      ),
    )

pub returns-in_ok-stage-in-len1-up-clause-acted : goal.returns-in_ok-stage-in-len1-up-clause-acted
returns-in_ok-stage-in-len1-up-clause-acted g t c =
    let moves : Moves g.T.Tree = record { stays = g.met.T.Tree.reaches_self; goes_on = g.met.T.Tree.reaches_on; never_falls = g.met.T.Tree.never_falls } in
    let xs = c.args.edits.now in
    let s = g.T.Tree.state c.args.tree.now in
    let split = parted xs c.edit-item.result c.edit-item.is c.in-len1-up.len_at_least in
    subst (λ (ys : List Edit). Acted g.T.Tree (Same s) (IsOfSome StagesEdit ys) (most_staged * length ys) c.args.now c.args.tree.now c.stage_all.new.tree c.stage_all.result) (sym split)
    (staged_more g.T.Tree c.args.now c.edit-item.result (others xs) moves c.in_ok-stage-in-len1-up.ensures.acted c.stage_all.ensures.acted)

pub returns-in_err-stage-in-len1-up-clause-turn : goal.returns-in_err-stage-in-len1-up-clause-turn
returns-in_err-stage-in-len1-up-clause-turn g t c =
    let xs = c.args.edits.now in
    let edit = c.edit-item.result in
    let s = g.T.Tree.state c.args.tree.now in
    let split = parted xs edit c.edit-item.is c.in-len1-up.len_at_least in
    let are = subst AreEdits split c.requires.edits in
    let free = subst (AllByRecursion (IsFree (places s))) split c.requires.free in
    acted_passed g.T.Tree c.stage.result c.from_residual.result c.in_err-stage-in-len1-up.was c.from_residual.ensures.1
    (subst (λ (ys : List Edit). Acted g.T.Tree (StagingSome ys s) (IsOfSome StagesEdit ys) (most_staged * length xs) c.args.now c.args.tree.now c.stage.new.tree c.stage.result) (sym split)
    (acted_within g.T.Tree most_staged (most_staged * length xs) (omega (arith, c.in-len1-up.len_at_least))
    (some_one_acted edit (others xs) are.1.0 g.T.Tree c.args.now free.1 c.stage.ensures.stages)))

pub returns-in_ok-stage-in-len1-up-clause-turn : goal.returns-in_ok-stage-in-len1-up-clause-turn
returns-in_ok-stage-in-len1-up-clause-turn g t c =
    let moves : Moves g.T.Tree = record { stays = g.met.T.Tree.reaches_self; goes_on = g.met.T.Tree.reaches_on; never_falls = g.met.T.Tree.never_falls } in
    let xs = c.args.edits.now in
    let edit = c.edit-item.result in
    let s = g.T.Tree.state c.args.tree.now in
    let split = parted xs edit c.edit-item.is c.in-len1-up.len_at_least in
    let are = subst AreEdits split c.requires.edits in
    let free = subst (AllByRecursion (IsFree (places s))) split c.requires.free in
    subst (λ (ys : List Edit). Acted g.T.Tree (StagingSome ys s) (IsOfSome StagesEdit ys) (most_staged * length ys) c.args.now c.args.tree.now c.stage_all.new.tree c.stage_all.result) (sym split)
    (some_more_acted edit (others xs) are.1.0 g.T.Tree c.args.now moves are.0 free.1 c.in_ok-stage-in-len1-up.ensures.ok c.in_ok-stage-in-len1-up.ensures.stages c.stage_all.ensures.turn)
