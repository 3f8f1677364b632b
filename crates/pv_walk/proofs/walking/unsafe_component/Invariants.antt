use Rattle.std.proofs.Common.{◌≡◌, ◌-◌, length}
use Rattle.std.specs.List.{range_with_len}
use Rattle.pv_steps.specs.Trees.{places}
use Rattle.pv_walk.specs.Walking.{first_unsafe_component, unsafe_component_from}
use Rattle.pv_walk.proofs.walking.unsafe_component.Given as goal

abbrev pub invariant-loop-k : goal.invariant-loop-k
invariant-loop-k g l = first_unsafe_component (places (g.T.Tree.state l.tree)) l.path ≡ unsafe_component_from (places (g.T.Tree.state l.tree)) l.path (range_with_len l.k (length l.path - l.k))
