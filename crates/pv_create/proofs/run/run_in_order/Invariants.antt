use Rattle.std.proofs.Common.{◌≡◌, drop}
use Rattle.pv_steps.proofs.CarryingLaws.{Underway}
use Rattle.pv_table.specs.Active.{create_order, in_create_order}
use Rattle.pv_create.specs.OnTheWay.{lines_course}
use Rattle.pv_create.proofs.run.run_in_order.Given as goal

abbrev pub invariant-loop-place : goal.invariant-loop-place
invariant-loop-place g l = record {
  items : l.place-items ≡ create_order l.table;
  run : Underway g.T.Tree (lines_course l.now) (in_create_order l.table) (drop l.place-index (in_create_order l.table)) l.now l.carried l.fn.tree l.tree l.fn.messages l.messages;
}
