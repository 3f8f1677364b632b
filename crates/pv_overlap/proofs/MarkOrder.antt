-- The order of marks, and what tells them apart.
use Rattle.std.proofs.Common.{◌≡◌, ℕ, ◌<◌, Bool, true, false, ◌&&◌, nat_eq, refl, sym, ap, ◌∙◌, arith}
use Rattle.std.specs.Ordering.{nat_cmp, eq_by_cmp, is_eq, ordering_then}
use Rattle.std.specs.Cmp.{IsEquivalence, IsTotalOrder, nat_cmp_total, nat_eq_equiv}
use Rattle.std.specs.declared.cmp.Ordering.{Ordering}
use Rattle.std.specs.declared.cmp.Ordering.TheVariants.{Less, Equal, Greater}
use Rattle.std.proofs.lemmas.Bool.Decides.{nat_tests}
use Rattle.std.proofs.lemmas.Cmp.{and_equiv, by_ranked, on_equiv, on_total, ranked, then_total}
use Rattle.std.proofs.lemmas.Bool.{and_parts}
use Rattle.pv_overlap.specs.Marks.{Mark, mark_cmp}

-- whether two marks are the same
abbrev pub same_mark : Mark → Mark → Bool
same_mark x y = nat_eq x.0 y.0 && nat_eq x.1 y.1

pub mark_total : IsTotalOrder mark_cmp
mark_total = then_total (on_total (λ (m : Mark). m.0) nat_cmp_total) (on_total (λ (m : Mark). m.1) nat_cmp_total)

pub same_equiv : IsEquivalence same_mark
same_equiv = and_equiv (on_equiv (λ (m : Mark). m.0) nat_eq_equiv) (on_equiv (λ (m : Mark). m.1) nat_eq_equiv)

number_tied : (a b : ℕ) → nat_eq a b ≡ is_eq (nat_cmp a b)
number_tied a b = by_ranked (a < b) (a ≡ b) (b < a) (nat_cmp a b) (ranked a b (nat_cmp a b) refl)
    (λ e less. (let f : nat_eq a b ≡ false = grind (arith, nat_tests) in f ∙ sym (ap is_eq e)))
    (λ e same. (let f : nat_eq a b ≡ true = grind (arith, nat_tests) in f ∙ sym (ap is_eq e)))
    (λ e more. (let f : nat_eq a b ≡ false = grind (arith, nat_tests) in f ∙ sym (ap is_eq e)))

then_tied : (o r : Ordering) → (is_eq o && is_eq r) ≡ is_eq (ordering_then o r)
then_tied Less r = refl
then_tied Equal r = refl
then_tied Greater r = refl

pub mark_tied : (x y : Mark) → same_mark x y ≡ eq_by_cmp mark_cmp x y
mark_tied x y = ap (λ (t : Bool). t && nat_eq x.1 y.1) (number_tied x.0 y.0) ∙ ap (λ (t : Bool). is_eq (nat_cmp x.0 y.0) && t) (number_tied x.1 y.1) ∙ then_tied (nat_cmp x.0 y.0) (nat_cmp x.1 y.1)

pub same_exact : (x y : Mark) → same_mark x y ≡ true → x ≡ y
same_exact x y e =
    let both = and_parts (nat_eq x.0 y.0) (nat_eq x.1 y.1) e in
    let p = both.0 in
    let q = both.1 in
    let a : x.0 ≡ y.0 = grind (arith, nat_tests) in
    let b : x.1 ≡ y.1 = grind (arith, nat_tests) in
    ap (λ (k : ℕ). (k, x.1)) a ∙ ap (λ (k : ℕ). (y.0, k)) b
