use Rattle.std.proofs.Common.{Contains, sym, subst}
use Rattle.std.proofs.lemmas.List.Filters.{dedup_is}
use Rattle.std.proofs.lemmas.List.Kept.{Contains-dedup, Contains-from_dedup, IsStrictlySortedBy-dedup}
use Rattle.std.proofs.lemmas.List.Sorted.{Contains-permutation, IsPermutation-sym}
use Rattle.pv_overlap.proofs.MarkOrder.{mark_tied, mark_total, same_equiv, same_exact, same_mark}
use Rattle.pv_overlap.proofs.marking.in_order.Goals as goal

pub returns-clause-same : goal.returns-clause-same
returns-clause-same c = λ mark.
    let is = dedup_is _ _ _ c.dedup.ensures.filtered in (
      λ h. Contains-permutation c.sort_unstable.new.self.items c.args.marks.items mark (IsPermutation-sym c.args.marks.items c.sort_unstable.new.self.items c.sort_unstable.ensures.permutation)
          (Contains-from_dedup same_mark c.sort_unstable.new.self.items mark (subst (λ xs. Contains xs mark) is h)),
      λ h. subst (λ xs. Contains xs mark) (sym is) (Contains-dedup same_equiv same_exact c.sort_unstable.new.self.items mark (Contains-permutation c.args.marks.items c.sort_unstable.new.self.items mark c.sort_unstable.ensures.permutation h)),
    )

pub returns-clause-sorted : goal.returns-clause-sorted
returns-clause-sorted c = rw (dedup_is _ _ _ c.dedup.ensures.filtered) (IsStrictlySortedBy-dedup mark_total mark_tied _ c.sort_unstable.ensures.sorted)
