use Rattle.std.proofs.Common.{◌≡◌, false, take}
use Rattle.std.specs.List.{list_any, range_with_len}
use Rattle.pv_table.specs.Reaching.{names}
use Rattle.pv_explain.proofs.point.names_above.Given as goal

abbrev pub invariant-loop-count : goal.invariant-loop-count
invariant-loop-count l = list_any (λ k. names l.line (take k l.path)) (range_with_len 0 l.count) ≡ false
