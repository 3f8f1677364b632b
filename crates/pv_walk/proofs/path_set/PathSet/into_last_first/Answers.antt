use Rattle.std.proofs.Common.{subst}
use Rattle.std.specs.List.Sorted.{IsStrictlySortedBy}
use Rattle.pv_path.specs.Paths.{path_cmp}
use Rattle.pv_walk.proofs.OrderLaws.{sorted-reverse}
use Rattle.pv_walk.proofs.path_set.PathSet.into_last_first.Goals as goal

pub returns-clause-order : goal.returns-clause-order
returns-clause-order c = subst (IsStrictlySortedBy path_cmp) c.self.view_is (sorted-reverse (λ p q. path_cmp q p) c.self.inside.paths.items c.self.invariant)
