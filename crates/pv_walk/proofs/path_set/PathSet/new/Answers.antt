use Rattle.std.proofs.Common.{subst, sym}
use Rattle.std.specs.List.Sorted.{IsStrictlySortedBy}
use Rattle.pv_path.specs.Paths.{path_cmp}
use Rattle.pv_walk.proofs.PathSetLaws.{none_falls}
use Rattle.pv_walk.proofs.path_set.PathSet.new.Goals as goal

pub invariant_of-result : goal.invariant_of-result
invariant_of-result c = subst (IsStrictlySortedBy (λ p q. path_cmp q p)) (sym c.new.ensures.items) none_falls
