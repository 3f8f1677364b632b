use Rattle.std.proofs.Common.{◌≡◌, ◌+◌, ◌-◌, length}
use Rattle.std.specs.List.{range_with_len}
use Rattle.pv_steps.specs.Trees.{places}
use Rattle.pv_walk.specs.Walking.{walked}
use Rattle.pv_walk.specs.Seeing.{owner_above, walked_from}
use Rattle.pv_walk.proofs.walking.walk.Given as goal

abbrev pub invariant-loop-k : goal.invariant-loop-k
invariant-loop-k g l = record {
  above : l.above ≡ owner_above (places (g.T.Tree.state l.tree)) l.path l.made l.k;
  rest : walked (places (g.T.Tree.state l.tree)) l.path l.made
      ≡ walked_from (places (g.T.Tree.state l.tree)) l.path l.made l.absent (range_with_len l.k (length l.path + 1 - l.k));
}
