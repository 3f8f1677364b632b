use Rattle.std.proofs.lemmas.Bool.{iff_false}
use Rattle.std.proofs.lemmas.Result.{IfOk-from_err}
use Rattle.std.proofs.Common.{◌≡◌, refl, inl, arith, ◌+◌, ◌-◌, ℕ, length}
use Rattle.pv_steps.specs.declared.step.Step.TheVariants.{SetMode}
use Rattle.pv_steps.proofs.ActingLaws.{acted_tried, Moves, well, acted_none, no_memory}
use Rattle.pv_walk.specs.SettingMetadata.{metadata_mode, with_mode_of}
use Rattle.pv_walk.specs.Changing.{Changing}
use Rattle.pv_walk.proofs.ChangingLaws.{kept_none, mode_asks, mode_ok}
use Rattle.pv_walk.proofs.setting_metadata.give_mode.Goals as goal

pub returns-then-kept-clause-ok : goal.returns-then-kept-clause-ok
returns-then-kept-clause-ok g c =
    kept_none c.args.path.now c.args.new.now (g.T.Tree.state c.args.tree.now) c.requires.can (with_mode_of c.args.new.now) (c.requires.kept.0 c.if-kept.true) c.args.now

pub try_step-requires : goal.try_step-requires
try_step-requires g c =
    rw c.in_ok-copy.ensures (mode_asks c.args.path.now c.args.new.now (g.T.Tree.state c.args.tree.now) c.requires.can (g.met.T.Tree.is_tree c.args.tree.now) c.args.now (iff_false c.requires.kept c.if-kept.false) c.mode.result c.mode.ensures.value).can

pub returns-clause-acted : goal.returns-clause-acted
returns-clause-acted g c =
    let path = c.args.path.now in
    let new = c.args.new.now in
    let t = g.T.Tree.state c.args.tree.now in
    acted_tried g.T.Tree (Changing path (with_mode_of new) t) (λ step. step ≡ SetMode path (metadata_mode new)) (SetMode path c.mode.result) c.args.now
    c.args.tree.now c.try_step.new.tree c.try_step.result (rw c.in_ok-copy.ensures at c.try_step.ensures)
    (mode_asks c.args.path.now c.args.new.now (g.T.Tree.state c.args.tree.now) c.requires.can (g.met.T.Tree.is_tree c.args.tree.now) c.args.now (iff_false c.requires.kept c.if-kept.false) c.mode.result c.mode.ensures.value)

pub returns-clause-ok : goal.returns-clause-ok
returns-clause-ok g c =
    mode_ok c.args.path.now c.args.new.now (g.T.Tree.state c.args.tree.now) c.requires.can (g.met.T.Tree.is_tree c.args.tree.now) c.args.now (iff_false c.requires.kept c.if-kept.false) c.mode.result c.mode.ensures.value
    c.try_step.result (g.T.Tree.state c.try_step.new.tree) (rw c.in_ok-copy.ensures at c.try_step.ensures.state)

pub returns-in_err-copy-clause-acted : goal.returns-in_err-copy-clause-acted
returns-in_err-copy-clause-acted g c =
    let moves : Moves g.T.Tree = record { stays = g.met.T.Tree.reaches_self; goes_on = g.met.T.Tree.reaches_on; never_falls = g.met.T.Tree.never_falls } in
    let path = c.args.path.now in
    let new = c.args.new.now in
    let t = g.T.Tree.state c.args.tree.now in
    acted_none g.T.Tree moves (Changing path (with_mode_of new) t) (λ step. step ≡ SetMode path (metadata_mode new)) 1 c.args.now c.args.tree.now c.from_residual.result (no_memory c.from_residual.result c.from_residual.ensures.1) (inl (λ q. refl))

pub returns-in_err-copy-clause-ok : goal.returns-in_err-copy-clause-ok
returns-in_err-copy-clause-ok g c = IfOk-from_err c.from_residual.result _ c.from_residual.ensures.0

pub returns-in_err-copy-clause-idle : goal.returns-in_err-copy-clause-idle
returns-in_err-copy-clause-idle g c = λ h. absurd (iff_false c.requires.kept c.if-kept.false h)

pub returns-clause-idle : goal.returns-clause-idle
returns-clause-idle g c = λ h. absurd (iff_false c.requires.kept c.if-kept.false h)

pub returns-then-kept-clause-acted : goal.returns-then-kept-clause-acted
returns-then-kept-clause-acted g c =
    let moves : Moves g.T.Tree = record { stays = g.met.T.Tree.reaches_self; goes_on = g.met.T.Tree.reaches_on; never_falls = g.met.T.Tree.never_falls } in
    let path = c.args.path.now in
    let new = c.args.new.now in
    let t = g.T.Tree.state c.args.tree.now in
    acted_none g.T.Tree moves (Changing path (with_mode_of new) t) (λ step. step ≡ SetMode path (metadata_mode new)) 1 c.args.now c.args.tree.now well refl (inl (λ q. refl))

none_asked : (n : ℕ) → n - n + 0 ≡ 0
none_asked n = omega arith

pub returns-then-kept-clause-idle : goal.returns-then-kept-clause-idle
returns-then-kept-clause-idle g c = λ _. none_asked (length (g.T.Tree.steps c.args.tree.now))
