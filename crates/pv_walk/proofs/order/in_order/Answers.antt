use Rattle.std.proofs.Common.{◌∙◌, List, ap, sym}
use Rattle.std.proofs.lemmas.List.Filters.{dedup_is}
use Rattle.std.proofs.lemmas.List.Kept.{IsStrictlySortedBy-dedup}
use Rattle.std.proofs.lemmas.List.Sorted.{list_any-IsPermutation}
use Rattle.pv_path.specs.Paths.{Path, path_total, same_path}
use Rattle.pv_walk.specs.Removal.{is_one_of}
use Rattle.pv_walk.proofs.FindingLaws.{same_tied, one_of-dedup}
use Rattle.pv_walk.proofs.order.in_order.Goals as goal

pub returns-clause-rises : goal.returns-clause-rises
returns-clause-rises c = rw (dedup_is _ _ _ c.dedup.ensures.filtered) (IsStrictlySortedBy-dedup path_total same_tied _ c.sort_unstable.ensures.sorted)

pub returns-clause-members : goal.returns-clause-members
returns-clause-members c = λ q.
    ap (λ (xs : List Path). is_one_of xs q) (dedup_is _ _ _ c.dedup.ensures.filtered)
    ∙ one_of-dedup q _
    ∙ sym (list_any-IsPermutation (λ p. same_path p q) _ _ c.sort_unstable.ensures.permutation)
