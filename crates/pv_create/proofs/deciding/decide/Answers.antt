use Rattle.std.proofs.Common.{◌≡◌, sym, subst}
use Rattle.pv_table.specs.declared.action.Action.{Action}
use Rattle.pv_table.specs.Turns.{decide, view_of}
use Rattle.pv_create.specs.Deciding.{meant}
use Rattle.pv_create.proofs.deciding.decide.Goals as goal

pub returns-in-Create-clause-turn : goal.returns-in-Create-clause-turn
returns-in-Create-clause-turn g c =
    let view = view_of (g.T.Tree.state c.args.tree.now) in
    subst (λ (d : Action). meant d view c.making_turn.result ≡ decide d view c.args.path.now) (sym c.in-Create.is) c.making_turn.ensures.turn

pub returns-in-Adjust-clause-turn : goal.returns-in-Adjust-clause-turn
returns-in-Adjust-clause-turn g c =
    let view = view_of (g.T.Tree.state c.args.tree.now) in
    subst (λ (d : Action). meant d view c.adjustment_turn.result ≡ decide d view c.args.path.now) (sym c.in-Adjust.is) c.adjustment_turn.ensures.turn

pub returns-in-Idle-clause-tree : goal.returns-in-Idle-clause-tree
returns-in-Idle-clause-tree g c = λ busy. absurd (busy c.in-Idle.is)
