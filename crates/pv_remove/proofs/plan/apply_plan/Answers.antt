use Rattle.std.proofs.Common.{refl}
use Rattle.pv_steps.proofs.ActingLaws.{acted_ended}
use Rattle.pv_steps.specs.Objects.{modified}
use Rattle.pv_walk.specs.Removal.{is_one_of}
use Rattle.pv_remove.proofs.NumberLaws.{one_step_each}
use Rattle.pv_remove.proofs.TakeLaws.{takes_failed, takes_messages_kept}
use Rattle.pv_remove.proofs.plan.apply_plan.Goals as goal

pub returns-in_err-take_away : goal.returns-in_err-take_away
returns-in_err-take_away g c = takes_failed g.T.Tree c.args.plan.new_messages c.args.plan.unfinished c.args.messages.now c.take_away.result c.from_residual.result c.in_err-take_away.was c.from_residual.ensures.1 c.take_away.ensures.acted c.take_away.ensures.order

pub returns-in_err-say_all : goal.returns-in_err-say_all
returns-in_err-say_all g c = takes_messages_kept g.T.Tree c.args.plan.unfinished c.from_residual-in_err-say_all.result c.from_residual-in_err-say_all.ensures.1 c.say_all.ensures.part c.in_ok-take_away.ensures.acted c.take_away.ensures.order

pub returns : goal.returns
returns g c = record {
  ok = c.in_ok-take_away.ensures.gone;
  new_messages = c.in_ok-say_all.ensures.ok;
  carried = c.of.ensures;
  part = c.say_all.ensures.part;
  silent = λ failed. cc;
  exact = one_step_each (is_one_of c.args.plan.paths) (modified c.args.now) c.in_ok-take_away.ensures.acted.ran c.in_ok-take_away.ensures.gone;
  acted = acted_ended g.T.Tree _ refl c.in_ok-take_away.ensures.acted;
  order = c.take_away.ensures.order;
}
