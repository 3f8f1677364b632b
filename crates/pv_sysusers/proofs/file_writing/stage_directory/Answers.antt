use Rattle.std.proofs.Common.{sym, ap, subst, ◌∙◌}
use Rattle.pv_path.specs.Paths.{Path, staging_of}
use Rattle.pv_steps.specs.declared.step.Step.TheVariants.{MakeDir, SetMode}
use Rattle.pv_steps.specs.Acting.{Tried}
use Rattle.pv_steps.specs.Steps.{Can}
use Rattle.pv_steps.specs.Trees.{places}
use Rattle.pv_steps.proofs.ActingLaws.{Moves, well}
use Rattle.pv_sysusers.proofs.DirectoryLaws.{can_mode, directory_held, directory_staged, mode_holds}
use Rattle.pv_sysusers.proofs.file_writing.stage_directory.Goals as goal

pub try_step-requires-2 : goal.try_step-requires-2
try_step-requires-2 g c =
    let staged = c.in_ok-stage.ensures ∙ ap staging_of c.requires.path in
    let first = subst (λ (p : Path). Tried g.T.Tree (MakeDir p) c.args.now c.args.tree.now c.try_step.new.tree well) (c.in_ok-copy.ensures ∙ staged) c.in_ok-try_step.ensures in
    let u = g.T.Tree.state c.try_step.new.tree in
    subst (λ (p : Path). Can (places u) (SetMode p 0o755)) (sym staged)
    (can_mode c.args.now (g.T.Tree.state c.args.tree.now) u (directory_held g.T.Tree c.args.now c.args.tree.now c.try_step.new.tree c.requires.root c.requires.free first))

pub returns-clause-ok : goal.returns-clause-ok
returns-clause-ok g c =
    let staged = c.in_ok-stage.ensures ∙ ap staging_of c.requires.path in
    let first = subst (λ (p : Path). Tried g.T.Tree (MakeDir p) c.args.now c.args.tree.now c.try_step.new.tree well) (c.in_ok-copy.ensures ∙ staged) c.in_ok-try_step.ensures in
    let last = subst (λ (p : Path). Tried g.T.Tree (SetMode p 0o755) c.args.now c.try_step.new.tree c.try_step-2.new.tree c.try_step-2.result) staged c.try_step-2.ensures in
    mode_holds c.args.now (g.T.Tree.state c.args.tree.now) (g.T.Tree.state c.try_step.new.tree)
    (directory_held g.T.Tree c.args.now c.args.tree.now c.try_step.new.tree c.requires.root c.requires.free first) c.try_step-2.result (g.T.Tree.state c.try_step-2.new.tree) last.state

pub returns-clause-acted : goal.returns-clause-acted
returns-clause-acted g c =
    let moves : Moves g.T.Tree = record { stays = g.met.T.Tree.reaches_self; goes_on = g.met.T.Tree.reaches_on; never_falls = g.met.T.Tree.never_falls } in
    let staged = c.in_ok-stage.ensures ∙ ap staging_of c.requires.path in
    let first = subst (λ (p : Path). Tried g.T.Tree (MakeDir p) c.args.now c.args.tree.now c.try_step.new.tree well) (c.in_ok-copy.ensures ∙ staged) c.in_ok-try_step.ensures in
    let last = subst (λ (p : Path). Tried g.T.Tree (SetMode p 0o755) c.args.now c.try_step.new.tree c.try_step-2.new.tree c.try_step-2.result) staged c.try_step-2.ensures in
    directory_staged g.T.Tree c.args.now c.args.tree.now c.try_step.new.tree c.requires.root c.requires.free first moves c.try_step-2.new.tree c.try_step-2.result last
