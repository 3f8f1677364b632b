use Rattle.std.proofs.Common.{◌≡◌, ◌&&◌, ◌||◌, take, is_none}
use Rattle.std.specs.List.{list_any}
use Rattle.pv_path.specs.Paths.{Path}
use Rattle.pv_steps.specs.Trees.{places}
use Rattle.pv_walk.specs.Removal.{is_one_of}
use Rattle.pv_table.specs.Removed.{refused_place}
use Rattle.pv_remove.specs.Covering.{takes}
use Rattle.pv_remove.proofs.covering.add_covered.Given as goal

abbrev pub invariant-loop-path : goal.invariant-loop-path
invariant-loop-path g l = (q : Path) → is_one_of l.covered.items q
    ≡ (is_one_of l.fn.covered.items q || list_any (λ p. is_none (refused_place l.line (places (g.T.Tree.state l.tree)) p) && takes l.taking (g.T.Tree.state l.tree) p q) (take l.path-index l.path-items))
