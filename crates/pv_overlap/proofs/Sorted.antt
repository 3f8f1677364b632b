-- Sorting puts heads in order.
use Rattle.std.proofs.Common.{◌≡◌, ◌≢◌, ℕ, zero, suc, ◌+◌, ◌-◌, ◌<◌, ◌≤◌, inl, inr, Bool, true, false, List, [], length, get_or, Contains, IsPermutation, refl, sym, ap, ◌∙◌, subst, arith}
use Rattle.std.specs.Ordering.{nat_cmp, is_gt, is_lt, ordering_then, ordering_reverse}
use Rattle.std.specs.declared.cmp.Ordering.{Ordering}
use Rattle.std.specs.declared.cmp.Ordering.TheVariants.{Less, Equal, Greater}
use Rattle.std.specs.List.{IsDistinct}
use Rattle.std.proofs.Math.Dec.{eqb}
use Rattle.std.proofs.lemmas.Bool.{cases_eq, eqb-false, ne_eqb}
use Rattle.std.proofs.lemmas.Cmp.{upto, tied_itself}
use Rattle.std.proofs.lemmas.List.{get_or_default}
use Rattle.std.proofs.lemmas.List.Elements.{Contains-get_or, All-from_get_or}
use Rattle.std.proofs.lemmas.List.Sorted.{All-permutation, Contains-permutation}
use Rattle.std.proofs.lemmas.Map.Keys.{apart_from_distinct, IsDistinct-from_apart, IsDistinct-IsPermutation}
use Rattle.pv_path.specs.Paths.{Path, path_cmp, path_total}
use Rattle.pv_overlap.specs.declared.walk.Head.{Head}
use Rattle.pv_overlap.specs.Walk.{IsHeadOf, IsOrderOf, head_at, no_head}

-- the order of heads, as it is derived
abbrev pub head_cmp : Head → Head → Ordering
head_cmp x y = ordering_then (path_cmp x.path y.path) (nat_cmp x.index y.index)

-- two heads have one number
abbrev same_number : Head → Head → Bool
same_number x y = eqb x.index y.index

either_way : (i j : ℕ) → eqb i j ≡ eqb j i
either_way i j = elim (cases_eq i j) [
  | inl e ↦ ap (λ x. eqb x j) e ∙ ap (λ x. eqb j x) (sym e)
  | inr differ ↦ ne_eqb i j differ ∙ sym (ne_eqb j i (λ e. differ (sym e)))
]

not_less : (p q : Path) (i j : ℕ) → is_lt (ordering_then (path_cmp q p) (nat_cmp i j)) ≡ false → is_gt (path_cmp p q) ≡ false
not_less p q i j e = by (path_cmp q p) refl
  where
    by : (o : Ordering) → path_cmp q p ≡ o → is_gt (path_cmp p q) ≡ false
    by Less f = absurd (let differ : ◌≡◌ {A = Bool} true false = sym (ap (λ x. is_lt (ordering_then x (nat_cmp i j))) f) ∙ e in cc)
    by Equal f = ap is_gt (path_total.antisymm p q ∙ ap ordering_reverse f)
    by Greater f = ap is_gt (path_total.antisymm p q ∙ ap ordering_reverse f)

not_greater : (o : Ordering) → is_gt o ≡ false → o ≢ Greater
not_greater o e f = let differ : ◌≡◌ {A = Bool} true false = sym (ap is_gt f) ∙ e in cc

module _ (heads : List Path) (unsorted order : List Head) (count : length unsorted ≡ length heads) (is : (k : ℕ) → k < length heads → head_at unsorted k ≡ record { path = get_or heads k []; index = k })
    (moved : IsPermutation unsorted order)
    (sorted : (k : ℕ) (d : Head) → 0 ≤ k → k + 1 < length order → is_lt (head_cmp (get_or order (k + 1) d) (get_or order k d)) ≡ false) where
  along : (n k : ℕ) → k + n < length order → is_gt (path_cmp (head_at order k).path (head_at order (k + n)).path) ≡ false
  along zero k l =
      let same : k + 0 ≡ k = omega arith in
      ap (λ x. is_gt (path_cmp (head_at order k).path (head_at order x).path)) same ∙ ap is_gt (tied_itself path_total (head_at order k).path)
  along (suc n) k l =
      let next : k + suc n ≡ k + n + 1 = omega arith in
      upto path_total (head_at order k).path (head_at order (k + n)).path (head_at order (k + suc n)).path (along n k (omega arith))
      (ap (λ x. is_gt (path_cmp (head_at order (k + n)).path (head_at order x).path)) next
      ∙ not_less (head_at order (k + n)).path (head_at order (k + n + 1)).path (head_at order (k + n + 1)).index (head_at order (k + n)).index (sorted (k + n) no_head (omega arith) (omega arith)))

  has_index : (i : ℕ) → i < length heads → Contains order (head_at unsorted i)
  has_index i l = Contains-permutation unsorted order (head_at unsorted i) moved (Contains-get_or unsorted i no_head (omega (arith, count, l)))

  pub in_order : IsOrderOf heads order
  in_order = record {
    all = λ i l. (let c = has_index i l in (c.0, c.1, ap (λ (x : Head). x.index) (get_or_default order c.0 no_head (head_at unsorted i) c.1 ∙ c.2 ∙ is i l)));
    each = λ k l. All-permutation (IsHeadOf heads) unsorted order moved (All-from_get_or (IsHeadOf heads) unsorted no_head each_unsorted) k no_head l;
    once = λ k m less inside. eqb-false (head_at order k).index (head_at order m).index (apart_from_distinct same_number order k m no_head distinct less inside);
    sorted = λ k m l n. (let far : k + (m - k) ≡ m = omega arith in
        not_greater (path_cmp (head_at order k).path (head_at order m).path) (sym (ap (λ x. is_gt (path_cmp (head_at order k).path (head_at order x).path)) far) ∙ along (m - k) k (omega arith)));
  }
    where
      each_unsorted : (k : ℕ) → k < length unsorted → IsHeadOf heads (get_or unsorted k no_head)
      each_unsorted k l =
          let inside : k < length heads = omega (arith, count, l) in
          subst (λ (x : Head). IsHeadOf heads x) (sym (is k inside)) (inside, refl)

      numbered : (k : ℕ) (d : Head) → k < length unsorted → (get_or unsorted k d).index ≡ k
      numbered k d l =
          let inside : k < length heads = omega (arith, count, l) in
          ap (λ (x : Head). x.index) (get_or_default unsorted k d no_head l ∙ is k inside)

      distinct : IsDistinct same_number order
      distinct = IsDistinct-IsPermutation same_number (λ x y. either_way x.index y.index) unsorted order moved
          (IsDistinct-from_apart same_number unsorted (λ i j d less inside.
          ne_eqb (get_or unsorted i d).index (get_or unsorted j d).index (λ e. (let a = numbered i d (omega arith) in let b = numbered j d inside in omega (arith, less, a, b, e)))))
