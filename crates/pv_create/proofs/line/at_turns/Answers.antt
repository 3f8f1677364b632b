use Rattle.std.proofs.Common.{sym, ◌∙◌}
use Rattle.pv_steps.proofs.ActingLaws.{Moves}
use Rattle.pv_create.proofs.LineLaws.{line_none, turns_start, turn_now, turns_failed, turns_next, turns_end, by_turns}
use Rattle.pv_create.proofs.line.at_turns.Goals as goal

pub returns-in_err-action : goal.returns-in_err-action
returns-in_err-action g c =
    let moves : Moves g.T.Tree = record { stays = g.met.T.Tree.reaches_self; goes_on = g.met.T.Tree.reaches_on; never_falls = g.met.T.Tree.never_falls } in
    line_none g.T.Tree moves c.args.now c.args.line.now c.args.tree.now c.args.messages.now c.from_residual.result c.from_residual.ensures.1

pub returns-in_err-paths : goal.returns-in_err-paths
returns-in_err-paths g c =
    let moves : Moves g.T.Tree = record { stays = g.met.T.Tree.reaches_self; goes_on = g.met.T.Tree.reaches_on; never_falls = g.met.T.Tree.never_falls } in
    line_none g.T.Tree moves c.args.now c.args.line.now c.args.tree.now c.args.messages.now c.from_residual-in_err-paths.result c.from_residual-in_err-paths.ensures.1

pub loop-path-init : goal.loop-path-init
loop-path-init g c =
    let moves : Moves g.T.Tree = record { stays = g.met.T.Tree.reaches_self; goes_on = g.met.T.Tree.reaches_on; never_falls = g.met.T.Tree.never_falls } in
    let are = c.deref-path-items.ensures.value ∙ c.in_ok-paths.ensures in
    (sym c.in_ok-action.ensures, turns_start g.T.Tree moves c.args.now c.args.line.now c.deref-path-items.result.now c.args.tree.now are c.args.messages.now)

pub at_turn-requires : goal.at_turn-requires
at_turn-requires g c =
    let moves : Moves g.T.Tree = record { stays = g.met.T.Tree.reaches_self; goes_on = g.met.T.Tree.reaches_on; never_falls = g.met.T.Tree.never_falls } in
    let are = c.deref-path-items.ensures.value ∙ c.in_ok-paths.ensures in
    record {
      at = record {
        whole = c.requires.line;
        asked = c.loop-path.invariant.0;
        turn = turn_now g.T.Tree moves c.args.now c.args.line.now c.deref-path-items.result.now c.args.tree.now are c.args.messages.now
            c.loop-path.path-index c.path-item.result c.loop-path-test.true c.path-item.is c.loop-path.carried c.loop-path.tree c.loop-path.messages c.loop-path.invariant.1 _ c.loop-path.invariant.0;
      };
    }

pub returns-in_err-one : goal.returns-in_err-one
returns-in_err-one g c =
    let moves : Moves g.T.Tree = record { stays = g.met.T.Tree.reaches_self; goes_on = g.met.T.Tree.reaches_on; never_falls = g.met.T.Tree.never_falls } in
    let are = c.deref-path-items.ensures.value ∙ c.in_ok-paths.ensures in
    by_turns g.T.Tree c.args.now c.args.line.now c.args.tree.now c.at_turn.new.tree c.args.messages.now c.at_turn.new.messages c.from_residual-in_err-one.result
    (turns_failed g.T.Tree moves c.args.now c.args.line.now c.deref-path-items.result.now c.args.tree.now are c.args.messages.now
    c.loop-path.path-index c.path-item.result c.loop-path-test.true c.path-item.is c.loop-path.carried c.loop-path.tree c.loop-path.messages c.loop-path.invariant.1
    c.at_turn.new.tree c.at_turn.new.messages c.at_turn.result c.from_residual-in_err-one.result c.in_err-one.was c.from_residual-in_err-one.ensures.1 c.at_turn.ensures.run)

pub loop-path-preserved : goal.loop-path-preserved
loop-path-preserved g c =
    let moves : Moves g.T.Tree = record { stays = g.met.T.Tree.reaches_self; goes_on = g.met.T.Tree.reaches_on; never_falls = g.met.T.Tree.never_falls } in
    let are = c.deref-path-items.ensures.value ∙ c.in_ok-paths.ensures in (
      c.loop-path.invariant.0,
      turns_next g.T.Tree moves c.args.now c.args.line.now c.deref-path-items.result.now c.args.tree.now are c.args.messages.now
          c.loop-path.path-index c.path-item.result c.loop-path-test.true c.path-item.is c.loop-path.carried c.loop-path.tree c.loop-path.messages c.loop-path.invariant.1
          c.at_turn.new.tree c.at_turn.new.messages c.in_ok-one.one c.and-carried.result c.in_ok-one.ensures.run c.and-carried.ensures,
    )

pub returns : goal.returns
returns g c =
    let moves : Moves g.T.Tree = record { stays = g.met.T.Tree.reaches_self; goes_on = g.met.T.Tree.reaches_on; never_falls = g.met.T.Tree.never_falls } in
    let are = c.deref-path-items.ensures.value ∙ c.in_ok-paths.ensures in
    by_turns g.T.Tree c.args.now c.args.line.now c.args.tree.now c.loop-path.tree c.args.messages.now c.loop-path.messages _
    (turns_end g.T.Tree moves c.args.now c.args.line.now c.deref-path-items.result.now c.args.tree.now are c.args.messages.now
    c.loop-path.path-index c.loop-path-test.false c.loop-path.carried c.loop-path.tree c.loop-path.messages c.loop-path.invariant.1)
