use Rattle.std.proofs.Common.{◌≡◌, ◌&&◌, take, is_some}
use Rattle.pv_path.specs.Paths.{Path}
use Rattle.pv_glob.specs.Matching.{matches}
use Rattle.pv_steps.specs.Trees.{places}
use Rattle.pv_walk.specs.Removal.{is_one_of}
use Rattle.pv_walk.proofs.matching.plain_paths.Given as goal

abbrev pub invariant-loop-component : goal.invariant-loop-component
invariant-loop-component g l = (q : Path) → is_one_of l.paths.items q ≡ (is_some (places (g.T.Tree.state l.tree) q) && matches (take l.component-index l.component-items) q)
