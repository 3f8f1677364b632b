use Rattle.std.proofs.Common.{◌≡◌, ◌++◌, drop}
use Rattle.pv_table.specs.Active.{is_adjusting_line}
use Rattle.pv_table.proofs.PlaceLaws.{places_from}
use Rattle.pv_table.proofs.order.add_adjustment.Given as goal

abbrev pub invariant-loop-place : goal.invariant-loop-place
invariant-loop-place l = l.order ++ places_from is_adjusting_line l.place (drop l.place l.lines) ≡ l.fn.order ++ places_from is_adjusting_line 0 l.lines
