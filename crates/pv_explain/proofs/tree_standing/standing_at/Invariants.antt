use Rattle.std.proofs.Common.{◌≡◌, take}
use Rattle.std.specs.FinMap as fin
use Rattle.pv_walk.specs.Nodes.{object_states_of}
use Rattle.pv_path.specs.Paths.{Path}
use Rattle.pv_explain.proofs.TabulatedLaws.{within}
use Rattle.pv_steps.specs.Trees.{places}
use Rattle.pv_explain.proofs.tree_standing.standing_at.Given as goal

abbrev pub invariant-loop-path : goal.invariant-loop-path
invariant-loop-path g l = (q : Path) → fin.get l.standing q ≡ within (object_states_of (places (g.T.Tree.state l.tree))) (take l.path-index l.paths) q
