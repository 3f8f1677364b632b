use Rattle.std.proofs.Common.{◌-◌, is_some, length}
use Rattle.indexmap.specs.IndexMap.{get}
use Rattle.pv_path.specs.Paths.{same_path}
use Rattle.pv_table.specs.Building.{makes, first_index}
use Rattle.pv_table.proofs.FirstLaws.{NotedDownTo}
use Rattle.pv_table.proofs.order.note_prefixes.Given as goal

abbrev pub invariant-loop-above : goal.invariant-loop-above
invariant-loop-above l = NotedDownTo (λ q. is_some (first_index (makes q) l.table)) (get same_path l.fn.firsts) (get same_path l.firsts) l.path (length l.path - l.above) l.place
