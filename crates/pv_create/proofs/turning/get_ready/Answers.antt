use Rattle.std.proofs.Common.{refl, sym, ◌∙◌}
use Rattle.pv_steps.proofs.ActingLaws.{Moves}
use Rattle.pv_create.proofs.ActionLaws.{line_action, made_path}
use Rattle.pv_create.proofs.PuttingLaws.{stageable}
use Rattle.pv_create.proofs.ReadyLaws.{passes, both_ok, prepared_found, prepared_ready, prepared_acted, left_found, left_ready, left_acted}
use Rattle.pv_create.proofs.turning.get_ready.Goals as goal
use Rattle.pv_path.proofs.Tests.{on_ok}

pub prepare-requires-clause-short : goal.prepare-requires-clause-short
prepare-requires-clause-short g c =
    let made = sym c.makes.ensures ∙ c.if-makes.true in
    stageable c.args.at.now.path.now (made_path c.args.at.now.action.now c.args.at.now.path.now made
    (line_action c.args.at.now.line.now c.args.at.now.action.now c.args.at.now.path.now (g.T.Tree.state c.args.tree.now) c.requires.at.whole c.requires.at.asked c.requires.at.turn)).short

pub prepare-requires-clause-unstaged : goal.prepare-requires-clause-unstaged
prepare-requires-clause-unstaged g c =
    let made = sym c.makes.ensures ∙ c.if-makes.true in
    (made_path c.args.at.now.action.now c.args.at.now.path.now made
    (line_action c.args.at.now.line.now c.args.at.now.action.now c.args.at.now.path.now (g.T.Tree.state c.args.tree.now) c.requires.at.whole c.requires.at.asked c.requires.at.turn)).unstaged

pub prepare-requires-clause-pass : goal.prepare-requires-clause-pass
prepare-requires-clause-pass g c =
    passes c.args.at.now.line.now c.args.at.now.action.now c.args.at.now.path.now (g.T.Tree.state c.args.tree.now) c.requires.at.asked c.requires.unrefused c.requires.something

pub returns-then-makes-clause-ok : goal.returns-then-makes-clause-ok
returns-then-makes-clause-ok g c =
    on_ok c.prepare.result (prepared_found c.args.at.now.now c.args.at.now.action.now c.args.at.now.path.now (g.T.Tree.state c.args.tree.now) (g.T.Tree.state c.prepare.new.tree) (sym c.makes.ensures ∙ c.if-makes.true)) c.prepare.ensures.ok

pub returns-then-makes-clause-ready : goal.returns-then-makes-clause-ready
returns-then-makes-clause-ready g c =
    on_ok c.prepare.result (prepared_ready c.args.at.now.action.now c.args.at.now.path.now (g.T.Tree.state c.prepare.new.tree) (sym c.makes.ensures ∙ c.if-makes.true))
    (both_ok c.prepare.result _ _ c.prepare.ensures.parent c.prepare.ensures.free)

pub returns-then-makes-clause-acted : goal.returns-then-makes-clause-acted
returns-then-makes-clause-acted g c =
    prepared_acted g.T.Tree c.args.at.now.now c.args.at.now.action.now c.args.at.now.path.now (g.T.Tree.state c.args.tree.now) c.args.tree.now c.prepare.new.tree c.prepare.result (sym c.makes.ensures ∙ c.if-makes.true) c.prepare.ensures.acted

pub returns-else-makes-clause-ok : goal.returns-else-makes-clause-ok
returns-else-makes-clause-ok g c = left_found c.args.at.now.now c.args.at.now.action.now c.args.at.now.path.now (g.T.Tree.state c.args.tree.now) (sym c.makes.ensures ∙ c.if-makes.false)

pub returns-else-makes-clause-ready : goal.returns-else-makes-clause-ready
returns-else-makes-clause-ready g c =
    left_ready c.args.at.now.line.now c.args.at.now.action.now c.args.at.now.path.now (g.T.Tree.state c.args.tree.now) (sym c.makes.ensures ∙ c.if-makes.false) c.requires.at.turn

pub returns-else-makes-clause-acted : goal.returns-else-makes-clause-acted
returns-else-makes-clause-acted g c =
    let moves : Moves g.T.Tree = record { stays = g.met.T.Tree.reaches_self; goes_on = g.met.T.Tree.reaches_on; never_falls = g.met.T.Tree.never_falls } in
    left_acted g.T.Tree moves c.args.at.now.now c.args.at.now.action.now c.args.at.now.path.now c.args.tree.now _ refl (sym c.makes.ensures ∙ c.if-makes.false)
