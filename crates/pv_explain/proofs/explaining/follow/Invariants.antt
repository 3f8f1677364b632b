use Rattle.std.proofs.Common.{◌≡◌, take}
use Rattle.std.specs.List.{filter_map, enumerate_from}
use Rattle.pv_table.specs.Active.{create_order, in_create_order}
use Rattle.pv_table.specs.Pointwise.{ObjectStates, state}
use Rattle.pv_explain.specs.Acts.{line_act}
use Rattle.pv_explain.specs.Following.{Follows}
use Rattle.pv_explain.proofs.explaining.follow.Given as goal

abbrev pub invariant-loop-place : goal.invariant-loop-place
invariant-loop-place l = record {
  items : l.place-items ≡ create_order l.table;
  follows : (s : ObjectStates) → Follows l.scope l.path l.fn.start s → Follows l.scope l.path l.standing (state l.table l.place-index s);
  acts : (s : ObjectStates) → Follows l.scope l.path l.fn.start s → l.acts ≡ filter_map (line_act l.table s l.path) (take l.place-index (enumerate_from 0 (in_create_order l.table)));
}
