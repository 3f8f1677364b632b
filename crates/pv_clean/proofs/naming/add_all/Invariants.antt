use Rattle.std.proofs.Common.{◌≡◌, ◌||◌, length}
use Rattle.pv_path.specs.Paths.{Path}
use Rattle.pv_walk.specs.Removal.{is_one_of}
use Rattle.pv_clean.proofs.naming.add_all.Given as goal

abbrev pub invariant-loop-path : goal.invariant-loop-path
invariant-loop-path l = (q : Path) → (is_one_of l.set.keys q || is_one_of l.left.items q) ≡ (is_one_of l.fn.set.keys q || is_one_of l.fn.paths.items q)

abbrev pub decreases-loop-path : goal.decreases-loop-path
decreases-loop-path l = length l.left.items
