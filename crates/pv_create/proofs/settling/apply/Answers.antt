use Rattle.std.proofs.Common.{refl, sym, ap, subst, ◌∙◌}
use Rattle.std.specs.Option.{option_copied}
use Rattle.pv_create.specs.Sets.{AreSets}
use Rattle.pv_steps.proofs.ActingLaws.{Moves}
use Rattle.pv_table.specs.declared.action.Action.{Action}
use Rattle.pv_table.specs.Repeatable.{sets_of}
use Rattle.pv_table.specs.Turns.{view_of}
use Rattle.pv_create.specs.declared.deciding.Turn.{Turn as Answer}
use Rattle.pv_create.specs.Deciding.{meant}
use Rattle.pv_create.specs.Actions.{IsAction, IsReady}
use Rattle.pv_create.specs.Turning.{Settles}
use Rattle.pv_create.proofs.PuttingLaws.{sets_fit, stands}
use Rattle.pv_create.proofs.SettlingLaws.{adjust_is, settles_reached, settles_become, settles_idle}
use Rattle.pv_create.proofs.settling.apply.Goals as goal

pub adjust-requires-clause-present : goal.adjust-requires-clause-present
adjust-requires-clause-present g c =
    let action = c.args.at.now.action.now in
    let t = g.T.Tree.state c.args.tree.now in
    stands action c.args.at.now.path.now t (sets_of action) (sym (ap (λ (answer : Answer). meant action (view_of t) answer) (sym c.in-Become.is) ∙ c.requires.turn))

pub adjust-requires-clause-sets : goal.adjust-requires-clause-sets
adjust-requires-clause-sets g c = subst AreSets (sym c.sets.ensures) (sets_fit c.args.at.now.action.now c.args.at.now.path.now c.requires.action)

-- ---- a line that only adjusts

pub returns-in-Some : goal.returns-in-Some
returns-in-Some g c =
    let e = sym c.adjustment_of.ensures ∙ ap option_copied c.in-Some.is in
    settles_reached g.T.Tree c.args.at.now.now c.args.at.now.action.now c.args.at.now.path.now c.args.tree.now c.adjust_reached.new.tree c.adjust_reached.result c.args.turn c.in-Some.adjustment.now e
    c.adjust_reached.ensures.ok c.adjust_reached.ensures.acted

pub adjust_reached-requires : goal.adjust_reached-requires
adjust_reached-requires g c =
    let e = sym c.adjustment_of.ensures ∙ ap option_copied c.in-Some.is in
    let is = adjust_is c.args.at.now.action.now c.in-Some.adjustment.now e in
    let path = c.args.at.now.path.now in
    record {
      present = subst (λ (d : Action). IsReady d path (g.T.Tree.state c.args.tree.now)) is c.requires.ready;
      sets = subst (IsAction path) is c.requires.action;
    }

-- ---- any other

pub returns-in-Become : goal.returns-in-Become
returns-in-Become g c =
    let e = sym c.adjustment_of.ensures ∙ ap option_copied c.in_default.is in
    let now = c.args.at.now.now in
    let action = c.args.at.now.action.now in
    let path = c.args.at.now.path.now in
    subst (λ (answer : Answer). Settles g.T.Tree now action path (meant action (view_of (g.T.Tree.state c.args.tree.now)) answer) c.args.tree.now c.adjust.new.tree c.adjust.result) (sym c.in-Become.is)
    (settles_become g.T.Tree now action path c.args.tree.now c.adjust.new.tree c.adjust.result e c.sets.result.now c.sets.ensures
    c.adjust.ensures.ok c.adjust.ensures.acted)

pub returns-in-Nothing : goal.returns-in-Nothing
returns-in-Nothing g c =
    let moves : Moves g.T.Tree = record { stays = g.met.T.Tree.reaches_self; goes_on = g.met.T.Tree.reaches_on; never_falls = g.met.T.Tree.never_falls } in
    settles_idle g.T.Tree moves c.args.at.now.now c.args.at.now.action.now c.args.at.now.path.now c.args.turn c.args.tree.now _ refl (sym c.adjustment_of.ensures ∙ ap option_copied c.in_default.is) c.in-Nothing.is
