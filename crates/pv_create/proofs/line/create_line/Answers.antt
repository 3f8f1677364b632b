use Rattle.std.proofs.Common.{Ok, refl}
use Rattle.pv_steps.proofs.CarryingLaws.{carried_failed}
use Rattle.pv_steps.proofs.ActingLaws.{acted_ended}
use Rattle.pv_table.specs.Created.{by_line}
use Rattle.pv_create.specs.OnTheWay.{lines_course}
use Rattle.pv_create.proofs.line.create_line.Goals as goal

pub returns-in_err-carried : goal.returns-in_err-carried
returns-in_err-carried g c =
    carried_failed g.T.Tree (lines_course c.args.now) c.args.line.now c.args.now c.args.tree.now c.args.messages.now c.at_turns.new.tree c.at_turns.new.messages
    c.at_turns.result c.from_residual.result c.in_err-carried.was c.from_residual.ensures.1 c.at_turns.ensures.part c.at_turns.ensures.acted c.at_turns.ensures.went

pub returns : goal.returns
returns g c = record {
  ok = c.in_ok-carried.ensures.ok;
  new_messages = c.in_ok-carried.ensures.new_messages;
  carried = c.outcome_with_minus.ensures ((by_line c.args.now).is_refused c.args.line.now (g.T.Tree.state c.args.tree.now)) c.in_ok-carried.ensures.carried;
  part = c.in_ok-carried.ensures.part;
  acted = acted_ended g.T.Tree (Ok c.outcome_with_minus.result) refl c.in_ok-carried.ensures.acted;
  went = c.in_ok-carried.ensures.went;
}
