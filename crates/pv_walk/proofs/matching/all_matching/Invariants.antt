use Rattle.std.proofs.Common.{◌≡◌, ◌&&◌, take, is_some}
use Rattle.pv_path.specs.Paths.{Path}
use Rattle.pv_glob.specs.Matching.{some_matches}
use Rattle.pv_steps.specs.Trees.{places}
use Rattle.pv_walk.specs.Removal.{is_one_of}
use Rattle.pv_walk.proofs.matching.all_matching.Given as goal

abbrev pub invariant-loop-plain : goal.invariant-loop-plain
invariant-loop-plain g l = (q : Path) → is_one_of l.paths.items q ≡ (is_some (places (g.T.Tree.state l.tree) q) && some_matches (take l.plain-index l.plains) q)
