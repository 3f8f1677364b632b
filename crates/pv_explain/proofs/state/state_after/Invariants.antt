use Rattle.std.proofs.Common.{◌≡◌, drop, fold, take}
use Rattle.pv_table.specs.Active.{create_order, in_create_order}
use Rattle.pv_table.specs.Pointwise.{pointwise_after, state}
use Rattle.pv_explain.proofs.state.state_after.Given as goal

abbrev pub invariant-loop-place : goal.invariant-loop-place
invariant-loop-place l = record {
  items : l.place-items ≡ take l.count (create_order l.table);
  state : fold pointwise_after l.standing (drop l.place-index (take l.count (in_create_order l.table))) ≡ state l.table l.count l.fn.start;
}
