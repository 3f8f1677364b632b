-- Lists of orders that rise: the object at each place, and how the halves shrink.
use Rattle.std.proofs.Common.{◌≡◌, ℕ, suc, zero, ◌+◌, ◌*◌, ◌/◌, ◌^◌, ◌<◌, ◌≤◌, List, ◌∷◌, ◌++◌, length, replicate, Some, None, slice_get, position, cond, nat_lt, true, false, refl, sym, ap, subst, ◌∙◌, arith, length-append}
use Rattle.std.proofs.lemmas.List.{length-replicate}
use Rattle.std.proofs.lemmas.Bool.Decides.{nat_tests}
use Rattle.std.specs.List.{position_or_len}
use Rattle.std.specs.Ordering.{is_eq}
use Rattle.std.specs.declared.cmp.Ordering.{Ordering}
use Rattle.std.specs.declared.cmp.Ordering.TheVariants.{Less, Equal, Greater}
use Rattle.pv_tree.specs.Finding.{IsRising, IsFoundAt, IsGapAt}

-- where an order may stand, with this many Less and Equal
abbrev pub Stands : Ordering → ℕ → ℕ → ℕ → Type 0
Stands Less a c i = i < a
Stands Equal a c i = (a ≤ i) × (i < a + c)
Stands Greater a c i = a + c ≤ i

later : (o : Ordering) (a c i : ℕ) → Stands o a c i → Stands o (suc a) c (suc i)
later Less a c i h = omega arith
later Equal a c i h = (omega arith, omega arith)
later Greater a c i h = omega arith

later_equal : (o : Ordering) (c i : ℕ) → Stands o 0 c i → Stands o 0 (suc c) (suc i)
later_equal Less c i h = absurd (omega arith)
later_equal Equal c i h = (omega arith, omega arith)
later_equal Greater c i h = omega arith

among_greater : (g i : ℕ) (o : Ordering) → slice_get (replicate g Greater) i ≡ Some o → Greater ≡ o
among_greater zero i o e = cc
among_greater (suc g) zero o e = cc
among_greater (suc g) (suc i) o e = among_greater g i o e

among_equal : (c g i : ℕ) (o : Ordering) → slice_get (replicate c Equal ++ replicate g Greater) i ≡ Some o → Stands o 0 c i
among_equal zero g i o e = subst (λ v. Stands v 0 0 i) (among_greater g i o e) (omega arith)
among_equal (suc c) g zero o e = let is : Equal ≡ o = cc in subst (λ v. Stands v 0 (suc c) 0) is (omega arith, omega arith)
among_equal (suc c) g (suc i) o e = later_equal o c i (among_equal c g i o e)

among : (a c g i : ℕ) (o : Ordering) → slice_get (replicate a Less ++ (replicate c Equal ++ replicate g Greater)) i ≡ Some o → Stands o a c i
among zero c g i o e = among_equal c g i o e
among (suc a) c g zero o e = let is : Less ≡ o = cc in subst (λ v. Stands v (suc a) c 0) is (omega arith)
among (suc a) c g (suc i) o e = later o a c i (among a c g i o e)

pub stands : (orders : List Ordering) (h : IsRising orders) (i : ℕ) (o : Ordering) → Some o ≡ slice_get orders i → Stands o h.less h.equal i
stands orders h i o e = among h.less h.equal h.greater i o (ap (λ v. slice_get v i) (sym h.is) ∙ sym e)

pub length_rising : (orders : List Ordering) (h : IsRising orders) → h.less + h.equal ≤ length orders
length_rising orders h =
    let n = ap length h.is in
    omega (arith, n, length-append (replicate h.less Less) (replicate h.equal Equal ++ replicate h.greater Greater), length-append (replicate h.equal Equal) (replicate h.greater Greater), length-replicate h.less Less, length-replicate h.equal Equal)

pub found : (orders : List Ordering) (h : IsRising orders) (i : ℕ) → Some Equal ≡ slice_get orders i → IsFoundAt orders i
found orders h i e =
    let s = stands orders h i Equal e in
    let once = h.once in
    let less : h.less ≡ i = omega (arith, s.0, s.1, h.once) in
    let equal : h.equal ≡ 1 = omega (arith, s.0, s.1, h.once) in
    record { greater = h.greater; is = h.is ∙ ap (λ v. replicate v Less ++ (replicate h.equal Equal ++ replicate h.greater Greater)) less ∙ ap (λ v. replicate i Less ++ (replicate v Equal ++ replicate h.greater Greater)) equal }

pub missed : (orders : List Ordering) (h : IsRising orders) (low high : ℕ) → low ≤ h.less → h.less + h.equal ≤ high → high ≤ low → IsGapAt orders low
missed orders h low high a b e =
    let less : h.less ≡ low = omega arith in
    let equal : h.equal ≡ 0 = omega arith in
    record { greater = h.greater; is = h.is ∙ ap (λ v. replicate v Less ++ (replicate h.equal Equal ++ replicate h.greater Greater)) less ∙ ap (λ v. replicate low Less ++ (replicate v Equal ++ replicate h.greater Greater)) equal }

-- ---- the place of the Equal

first_found : (i g : ℕ) → position_or_len is_eq (replicate i Less ++ Equal ∷ replicate g Greater) ≡ i
first_found zero g = refl
first_found (suc i) g = ap (λ n. 1 + n) (first_found i g) ∙ omega arith

first_greater : (g : ℕ) → position_or_len is_eq (replicate g Greater) ≡ g
first_greater zero = refl
first_greater (suc g) = ap (λ n. 1 + n) (first_greater g) ∙ omega arith

first_missed : (i g : ℕ) → position_or_len is_eq (replicate i Less ++ replicate g Greater) ≡ i + g
first_missed zero g = first_greater g ∙ omega arith
first_missed (suc i) g = ap (λ n. 1 + n) (first_missed i g) ∙ omega arith

below : (i n : ℕ) → i < n → nat_lt i n ≡ true
below i n h = grind (arith, nat_tests)

not_below : (i n : ℕ) → n ≤ i → nat_lt i n ≡ false
not_below i n h = grind (arith, nat_tests)

place_found : (i g : ℕ) → position is_eq (replicate i Less ++ Equal ∷ replicate g Greater) ≡ Some i
place_found i g =
    let xs : List Ordering = replicate i Less ++ Equal ∷ replicate g Greater in
    let n = length-append (replicate i Less) (Equal ∷ replicate g Greater) in
    let at = first_found i g in
    let within : nat_lt (position_or_len is_eq xs) (length xs) ≡ true = below _ _ (omega (arith, n, at, length-replicate i Less)) in
    ap (λ b. cond b (Some (position_or_len is_eq xs)) None) within ∙ ap Some at

place_none : (i g : ℕ) → position is_eq (replicate i Less ++ replicate g Greater) ≡ None
place_none i g =
    let xs : List Ordering = replicate i Less ++ replicate g Greater in
    let n = length-append (replicate i Less) (replicate g Greater) in
    let past : nat_lt (position_or_len is_eq xs) (length xs) ≡ false = not_below _ _ (omega (arith, n, first_missed i g, length-replicate i Less, length-replicate g Greater)) in
    ap (λ b. cond b (Some (position_or_len is_eq xs)) None) past

pub position_found : (orders : List Ordering) (i : ℕ) → IsFoundAt orders i → position is_eq orders ≡ Some i
position_found orders i h = ap (position is_eq) h.is ∙ place_found i h.greater

pub position_none : (orders : List Ordering) (i : ℕ) → IsGapAt orders i → position is_eq orders ≡ None
position_none orders i h = ap (position is_eq) h.is ∙ place_none i h.greater

-- where the orders rise, the place of the Equal is where it is found, and none is a gap
pub rising_found : (orders : List Ordering) (i : ℕ) → IsRising orders → position is_eq orders ≡ Some i → IsFoundAt orders i
rising_found orders i h e = by_count h.equal h.once h.is
  where
    by_count : (c : ℕ) → c ≤ 1 → orders ≡ replicate h.less Less ++ (replicate c Equal ++ replicate h.greater Greater) → IsFoundAt orders i
    by_count zero once is =
        let none : None ≡ Some i = sym (position_none orders h.less (record { greater = h.greater; is = is })) ∙ e in
        absurd cc
    by_count (suc zero) once is =
        let at : IsFoundAt orders h.less = record { greater = h.greater; is = is } in
        let both : Some h.less ≡ Some i = sym (position_found orders h.less at) ∙ e in
        let same : h.less ≡ i = cc in
        subst (IsFoundAt orders) same at
    by_count (suc (suc c)) once is = absurd (omega (arith, once))

pub rising_none : (orders : List Ordering) (h : IsRising orders) → position is_eq orders ≡ None → IsGapAt orders h.less
rising_none orders h e = by_count h.equal h.once h.is
  where
    by_count : (c : ℕ) → c ≤ 1 → orders ≡ replicate h.less Less ++ (replicate c Equal ++ replicate h.greater Greater) → IsGapAt orders h.less
    by_count zero once is = record { greater = h.greater; is = is }
    by_count (suc zero) once is =
        let some : Some h.less ≡ None = sym (position_found orders h.less (record { greater = h.greater; is = is })) ∙ e in
        absurd cc
    by_count (suc (suc c)) once is = absurd (omega (arith, once))

-- ---- how many queries are needed

-- k more queries suffice for n places, where d sufficed in all
pub record IsEnough (d n asked left : ℕ) : Type 0 where
  pub more : ℕ
  pub count : d + left ≡ asked + more
  pub fits : n < 2 ^ more

double : (k : ℕ) → 2 ^ suc k ≡ 2 * 2 ^ k
double k = omega arith

pub halved : (d n m asked left new : ℕ) → IsEnough d n asked left → 1 ≤ n → m ≤ n / 2 → new + 1 ≡ left → 1 ≤ left → IsEnough d m asked new
halved d n m asked left new h some half fewer one = by_more h.more h.count h.fits
  where
    by_more : (k : ℕ) → d + left ≡ asked + k → n < 2 ^ k → IsEnough d m asked new
    by_more zero c f = absurd (omega arith)
    by_more (suc k) c f = record { more = k; count = omega arith; fits = omega (arith, double k) }
