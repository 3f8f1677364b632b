-- Laws of the order of lists by length and then by their numbers.
use Rattle.std.proofs.Common.{◌≡◌, ℕ, ◌<◌, ◌≤◌, true, false, List, [], ◌∷◌, ◌++◌, length, refl, sym, ap, ◌∙◌, arith, length-append}
use Rattle.std.specs.Ordering.{nat_cmp, is_gt, ordering_then, ordering_reverse}
use Rattle.std.specs.Cmp.{IsTotalOrder, nat_cmp_total}
use Rattle.std.specs.Cmp.Lexicographic.{slice_cmp, nat_list_cmp_total}
use Rattle.std.proofs.lemmas.Cmp.{then_total, on_total, upto, tied_itself, ranked, by_ranked}
use Rattle.std.specs.declared.cmp.Ordering.{Ordering}
use Rattle.std.specs.declared.cmp.Ordering.TheVariants.{Less, Equal, Greater}
use Rattle.pv_glob.specs.Words.{shortlex}

pub shortlex_total : IsTotalOrder shortlex
shortlex_total = then_total (on_total length nat_cmp_total) nat_list_cmp_total

pub same_is_first : (u : List ℕ) → is_gt (shortlex u u) ≡ false
same_is_first u = ap is_gt (tied_itself shortlex_total u)

pub first_trans : (u v w : List ℕ) → is_gt (shortlex u v) ≡ false → is_gt (shortlex v w) ≡ false → is_gt (shortlex u w) ≡ false
first_trans u v w p q = upto shortlex_total u v w p q

pub not_both : (o : Ordering) → is_gt o ≡ true → is_gt (ordering_reverse o) ≡ false
not_both Less e = cc
not_both Equal e = cc
not_both Greater e = refl

-- what is not after another comes before it or is the same
pub other_is_first : (u v : List ℕ) → is_gt (shortlex u v) ≡ true → is_gt (shortlex v u) ≡ false
other_is_first u v e = ap is_gt (shortlex_total.antisymm v u) ∙ not_both (shortlex u v) e

pub shorter_is_first : (u v : List ℕ) → length u < length v → is_gt (shortlex u v) ≡ false
shorter_is_first u v l = by_ranked (length u < length v) (length u ≡ length v) (length v < length u) (nat_cmp (length u) (length v)) (ranked (length u) (length v) (nat_cmp (length u) (length v)) refl)
    (λ e _. ap (λ o. is_gt (ordering_then o (slice_cmp nat_cmp u v))) e) (λ e p. absurd (omega arith)) (λ e p. absurd (omega arith))

pub first_is_short : (u v : List ℕ) → is_gt (shortlex u v) ≡ false → length u ≤ length v
first_is_short u v f = by_ranked (length u < length v) (length u ≡ length v) (length v < length u) (nat_cmp (length u) (length v)) (ranked (length u) (length v) (nat_cmp (length u) (length v)) refl)
    (λ e p. omega arith) (λ e p. omega arith) (λ e p. let g : is_gt (ordering_then Greater (slice_cmp nat_cmp u v)) ≡ false = sym (ap (λ o. is_gt (ordering_then o (slice_cmp nat_cmp u v))) e) ∙ f in cc)

nat_tie : (n : ℕ) → nat_cmp n n ≡ Equal
nat_tie n = tied_itself nat_cmp_total n

-- where two lists are as long, their order is that of their numbers
pub by_numbers : (u v : List ℕ) → length u ≡ length v → shortlex u v ≡ slice_cmp nat_cmp u v
by_numbers u v e = ap (λ o. ordering_then o (slice_cmp nat_cmp u v)) (ap (nat_cmp (length u)) (sym e) ∙ nat_tie (length u))

then_assoc : (a b c : Ordering) → ordering_then a (ordering_then b c) ≡ ordering_then (ordering_then a b) c
then_assoc Less b c = refl
then_assoc Equal b c = refl
then_assoc Greater b c = refl

-- what follows two lists that are as long decides where they are the same
pub slice_cmp-append : (u v x y : List ℕ) → length u ≡ length v → slice_cmp nat_cmp (u ++ x) (v ++ y) ≡ ordering_then (slice_cmp nat_cmp u v) (slice_cmp nat_cmp x y)
slice_cmp-append [] [] x y e = refl
slice_cmp-append [] (b ∷ v) x y e = absurd (omega (arith, e))
slice_cmp-append (a ∷ u) [] x y e = absurd (omega (arith, e))
slice_cmp-append (a ∷ u) (b ∷ v) x y e = ap (λ o. ordering_then (nat_cmp a b) o) (slice_cmp-append u v x y (omega (arith, e))) ∙ then_assoc (nat_cmp a b) (slice_cmp nat_cmp u v) (slice_cmp nat_cmp x y)

pub then_first : (a b : Ordering) → is_gt a ≡ false → is_gt b ≡ false → is_gt (ordering_then a b) ≡ false
then_first Less b p q = refl
then_first Equal b p q = q
then_first Greater b p q = p

-- what comes first comes first also where both are followed by numbers in order
pub first_append : (u v x y : List ℕ) → is_gt (shortlex u v) ≡ false → length x ≡ length y → is_gt (slice_cmp nat_cmp x y) ≡ false → is_gt (shortlex (u ++ x) (v ++ y)) ≡ false
first_append u v x y first long order = by_ranked (length u < length v) (length u ≡ length v) (length v < length u) (nat_cmp (length u) (length v)) (ranked (length u) (length v) (nat_cmp (length u) (length v)) refl)
    (λ e p. shorter_is_first (u ++ x) (v ++ y) (omega (arith, length-append u x, length-append v y)))
    (λ e p.
    let same : length (u ++ x) ≡ length (v ++ y) = omega (arith, length-append u x, length-append v y) in
    let front : is_gt (slice_cmp nat_cmp u v) ≡ false = sym (ap is_gt (by_numbers u v p)) ∙ first in
    ap is_gt (by_numbers (u ++ x) (v ++ y) same ∙ slice_cmp-append u v x y p) ∙ then_first (slice_cmp nat_cmp u v) (slice_cmp nat_cmp x y) front order)
    (λ e p. absurd (let l = first_is_short u v first in omega arith))

-- the same numbers may follow
pub first_followed : (u v x : List ℕ) → is_gt (shortlex u v) ≡ false → is_gt (shortlex (u ++ x) (v ++ x)) ≡ false
first_followed u v x first = first_append u v x x first refl (ap is_gt (tied_itself nat_list_cmp_total x))

one_in_order : (a b : ℕ) → a ≤ b → is_gt (slice_cmp nat_cmp (a ∷ []) (b ∷ [])) ≡ false
one_in_order a b l = by_ranked (a < b) (a ≡ b) (b < a) (nat_cmp a b) (ranked a b (nat_cmp a b) refl)
    (λ e _. ap (λ o. is_gt (ordering_then o Equal)) e) (λ e _. ap (λ o. is_gt (ordering_then o Equal)) e) (λ e p. absurd (omega arith))

-- of two numbers that follow one list the lesser comes first
pub lesser_follows : (u : List ℕ) (a b : ℕ) → a ≤ b → is_gt (shortlex (u ++ a ∷ []) (u ++ b ∷ [])) ≡ false
lesser_follows u a b l = first_append u u (a ∷ []) (b ∷ []) (same_is_first u) refl (one_in_order a b l)
