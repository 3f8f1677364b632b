use Rattle.std.proofs.Common.{◌≡◌, [], drop, fold}
use Rattle.std.specs.List.{enumerate_from}
use Rattle.pv_table.specs.Ranking.{with_rank}
use Rattle.pv_table.proofs.order.ranks_of.Given as goal

abbrev pub invariant-loop-place : goal.invariant-loop-place
invariant-loop-place l = fold (with_rank l.lines) l.ranks.entries (enumerate_from l.place (drop l.place l.lines)) ≡ fold (with_rank l.lines) [] (enumerate_from 0 l.lines)
