use Rattle.std.proofs.Common.{◌≡◌, take}
use Rattle.indexmap.specs.IndexMap.{get}
use Rattle.pv_path.specs.Paths.{Path, same_path}
use Rattle.pv_table.specs.Ranking.{first_known}
use Rattle.pv_table.proofs.order.firsts_under.Given as goal

abbrev pub invariant-loop-place : goal.invariant-loop-place
invariant-loop-place l = (q : Path) → get same_path l.firsts q ≡ first_known l.table (take l.place l.lines) q
