use Rattle.std.proofs.Common.{◌≡◌, ◌&&◌, take, is_some}
use Rattle.std.specs.List.{list_any}
use Rattle.pv_path.specs.Paths.{Path}
use Rattle.pv_steps.specs.Trees.{places}
use Rattle.pv_walk.specs.Removal.{is_one_of}
use Rattle.pv_table.specs.Reaching.{names}
use Rattle.pv_clean.proofs.naming.all_named.Given as goal

abbrev pub invariant-loop-line : goal.invariant-loop-line
invariant-loop-line g l = (q : Path) → is_one_of l.named.keys q ≡ (is_some (places (g.T.Tree.state l.tree) q) && list_any (λ line. names line q) (take l.line-index l.lines))
