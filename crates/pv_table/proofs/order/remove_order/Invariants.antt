use Rattle.std.proofs.Common.{◌≡◌, ◌++◌, drop}
use Rattle.pv_table.specs.Active.{is_taking}
use Rattle.pv_table.proofs.PlaceLaws.{places_from}
use Rattle.pv_table.proofs.order.remove_order.Given as goal

abbrev pub invariant-loop-place : goal.invariant-loop-place
invariant-loop-place l = l.order ++ places_from is_taking l.place (drop l.place l.lines) ≡ places_from is_taking 0 l.lines
