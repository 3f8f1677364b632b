use Rattle.std.proofs.Common.{◌++◌, map, ap, subst, ◌∙◌}
use Rattle.pv_steps.proofs.ActingLaws.{Moves, no_memory}
use Rattle.pv_text.specs.GivenMessages.{message_text_at}
use Rattle.pv_text.proofs.MessagesLaws.{messages_whole}
use Rattle.pv_table.specs.Saying.{turn_texts}
use Rattle.pv_table.specs.Turns.{Turn, decide, view_of}
use Rattle.pv_create.specs.Actions.{IsAction}
use Rattle.pv_create.specs.Turning.{Settles}
use Rattle.pv_create.proofs.ToldLaws.{none_asked}
use Rattle.pv_create.proofs.SettlingLaws.{on_any, settles_failed}
use Rattle.pv_create.proofs.settling.settle.Goals as goal

-- ---- it is said before the first step

pub returns-in_err-turn-clause-told : goal.returns-in_err-turn-clause-told
returns-in_err-turn-clause-told g c = λ one. absurd (none_asked c.from_residual.result (g.T.Tree.steps c.args.tree.now) (no_memory c.from_residual.result c.from_residual.ensures.1) one)

pub returns-in_err-say_turn-clause-told : goal.returns-in_err-say_turn-clause-told
returns-in_err-say_turn-clause-told g c =
    λ one. absurd (none_asked c.from_residual-in_err-say_turn.result (g.T.Tree.steps c.args.tree.now) (no_memory c.from_residual-in_err-say_turn.result c.from_residual-in_err-say_turn.ensures.1) one)

pub returns-clause-told : goal.returns-clause-told
returns-clause-told g c =
    let action = c.args.at.now.action.now in
    let view = view_of (g.T.Tree.state c.args.tree.now) in
    λ one. c.in_ok-say_turn.ensures.ok action view
    ∙ ap (λ (turn : Turn). c.args.messages.now ++ map (message_text_at c.args.at.now.line.now.place) (turn_texts c.args.at.now.path.now turn)) c.in_ok-turn.ensures.turn

-- ---- memory ran out

pub returns-in_err-turn-clause-settles : goal.returns-in_err-turn-clause-settles
returns-in_err-turn-clause-settles g c =
    let moves : Moves g.T.Tree = record { stays = g.met.T.Tree.reaches_self; goes_on = g.met.T.Tree.reaches_on; never_falls = g.met.T.Tree.never_falls } in
    settles_failed g.T.Tree moves c.args.at.now.now c.args.at.now.action.now c.args.at.now.path.now _ c.args.tree.now c.from_residual.result c.from_residual.ensures.1

pub returns-in_err-say_turn-clause-settles : goal.returns-in_err-say_turn-clause-settles
returns-in_err-say_turn-clause-settles g c =
    let moves : Moves g.T.Tree = record { stays = g.met.T.Tree.reaches_self; goes_on = g.met.T.Tree.reaches_on; never_falls = g.met.T.Tree.never_falls } in
    settles_failed g.T.Tree moves c.args.at.now.now c.args.at.now.action.now c.args.at.now.path.now _ c.args.tree.now c.from_residual-in_err-say_turn.result c.from_residual-in_err-say_turn.ensures.1

-- ---- what is decided is said and done

pub apply-requires-clause-tree : goal.apply-requires-clause-tree
apply-requires-clause-tree g c =
    c.in_ok-turn.ensures.tree (λ idle. let none : ⊥ = subst (IsAction c.args.at.now.path.now) idle c.requires.action in none)

pub returns-clause-settles : goal.returns-clause-settles
returns-clause-settles g c =
    subst (λ (turn : Turn). Settles g.T.Tree c.args.at.now.now c.args.at.now.action.now c.args.at.now.path.now turn c.args.tree.now c.apply.new.tree c.apply.result) c.in_ok-turn.ensures.turn c.apply.ensures

pub returns-clause-new_messages : goal.returns-clause-new_messages
returns-clause-new_messages g c =
    let action = c.args.at.now.action.now in
    let view = view_of (g.T.Tree.state c.args.tree.now) in
    on_any c.apply.result
    (c.in_ok-say_turn.ensures.ok action view
    ∙ ap (λ (turn : Turn). c.args.messages.now ++ map (message_text_at c.args.at.now.line.now.place) (turn_texts c.args.at.now.path.now turn)) c.in_ok-turn.ensures.turn)

pub returns-clause-part : goal.returns-clause-part
returns-clause-part g c =
    let action = c.args.at.now.action.now in
    let view = view_of (g.T.Tree.state c.args.tree.now) in
    let turn = decide action view c.args.at.now.path.now in
    messages_whole (map (message_text_at c.args.at.now.line.now.place) (turn_texts c.args.at.now.path.now turn)) c.args.messages.now c.say_turn.new.messages
    (c.in_ok-say_turn.ensures.ok action view
    ∙ ap (λ (turn : Turn). c.args.messages.now ++ map (message_text_at c.args.at.now.line.now.place) (turn_texts c.args.at.now.path.now turn)) c.in_ok-turn.ensures.turn)
