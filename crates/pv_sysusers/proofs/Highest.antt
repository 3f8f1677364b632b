-- The highest number below a bound that passes a test.
use Rattle.std.proofs.Common.{◌≡◌, ℕ, zero, suc, ◌+◌, ◌-◌, ◌<◌, ◌≤◌, Bool, true, false, not, ◌&&◌, ◌||◌, ◌==◌, nat_le, nat_eq, max, List, [], ◌∷◌, ◌++◌, take, get_or, length, Option, Some, None, refl, sym, ap, ◌∙◌, arith, cond, if◌then◌else◌}
use Rattle.std.specs.HashSet as set
use Rattle.std.specs.List.{list_any}
use Rattle.std.proofs.lemmas.Bool.Decides.{nat_tests}
use Rattle.std.proofs.lemmas.List.{take_more}
use Rattle.std.proofs.Math.Bool.{and-false}
use Rattle.pv_accounts.specs.InUse.{Ids, is_held}
use Rattle.pv_sysusers.specs.Deciding.{is_free_in, pooled_by}
use Rattle.pv_sysusers.specs.Pools.{greater, highest, is_between, last_of}
use Rattle.pv_sysusers.specs.declared.pool.Pool.{Pool}

pub highest_below : (p : ℕ → Bool) (b n : ℕ) → highest p b ≡ Some n → n < b
unfolding highest
highest_below p zero n h = cc
highest_below p (suc b) n h = by_test (p b) refl (highest_below p b n)
  where
    by_test : (t : Bool) → p b ≡ t → (highest p b ≡ Some n → n < b) → n < suc b
    by_test true e rest = let here : Some b ≡ Some n = rw e at h in let same : b ≡ n = cc in omega arith
    by_test false e rest = let left : highest p b ≡ Some n = rw e at h in let below : n < b = rest left in omega arith

-- the highest number that passes two tests, by those that pass the first
pub highest_both : (p q : ℕ → Bool) (b : ℕ) (o : Option ℕ) → o ≡ highest p b
    → highest (λ n. p n && q n) b ≡ (elim o as (λ _. Option ℕ) [ None ↦ None | Some n ↦ if q n then Some n else highest (λ n. p n && q n) n ])
unfolding highest
highest_both p q zero o e = rw e refl
highest_both p q (suc b) o e = by_test (p b) refl (highest_both p q b)
  where
    by_test : (t : Bool) → p b ≡ t
        → ((o : Option ℕ) → o ≡ highest p b → highest (λ n. p n && q n) b ≡ (elim o as (λ _. Option ℕ) [ None ↦ None | Some n ↦ if q n then Some n else highest (λ n. p n && q n) n ]))
        → highest (λ n. p n && q n) (suc b) ≡ (elim o as (λ _. Option ℕ) [ None ↦ None | Some n ↦ if q n then Some n else highest (λ n. p n && q n) n ])
    by_test true d rest = let found : o ≡ Some b = e ∙ rw d refl in rw (found, d) refl
    by_test false d rest = let left : o ≡ highest p b = e ∙ rw d refl in rw d (rest o left)

-- the highest number that passes one of two tests
pub highest_or : (p q : ℕ → Bool) (b : ℕ) → highest (λ n. p n || q n) b ≡ greater (highest p b) (highest q b)
unfolding highest
highest_or p q zero = refl
highest_or p q (suc b) = by_tests (p b) (q b) refl refl (highest_or p q b)
  where
    left_max : (o : Option ℕ) → highest q b ≡ o → Some b ≡ greater (Some b) o
    left_max None e = refl
    left_max (Some n) e = let below : n < b = highest_below q b n e in let same : max b n ≡ b = omega arith in ap (λ (m : ℕ). Some m) (sym same)

    right_max : (o : Option ℕ) → highest p b ≡ o → Some b ≡ greater o (Some b)
    right_max None e = refl
    right_max (Some n) e = let below : n < b = highest_below p b n e in let same : max n b ≡ b = omega arith in ap (λ (m : ℕ). Some m) (sym same)

    both_max : Some b ≡ greater (Some b) (Some b)
    both_max = let same : max b b ≡ b = omega arith in ap (λ (m : ℕ). Some m) (sym same)

    by_tests : (s t : Bool) → p b ≡ s → q b ≡ t → highest (λ n. p n || q n) b ≡ greater (highest p b) (highest q b)
        → highest (λ n. p n || q n) (suc b) ≡ greater (highest p (suc b)) (highest q (suc b))
    by_tests true true d e rest = rw (d, e) both_max
    by_tests true false d e rest = rw (d, e) (left_max (highest q b) refl)
    by_tests false true d e rest = rw (d, e) (right_max (highest p b) refl)
    by_tests false false d e rest = rw (d, e) rest

highest_none : (b : ℕ) → highest (λ n. false) b ≡ None
unfolding highest
highest_none zero = refl
highest_none (suc b) = highest_none b

pub top_none : (b : ℕ) → None ≡ highest (λ n. list_any (is_between n) []) b
top_none b = sym (highest_none b)

any_end : (test : (ℕ × ℕ) → Bool) (xs : List (ℕ × ℕ)) (x : ℕ × ℕ) → list_any test (xs ++ x ∷ []) ≡ (list_any test xs || test x)
any_end test [] x = by (test x)
  where
    by : (b : Bool) → (b || false) ≡ (false || b)
    by true = refl
    by false = refl
any_end test (y ∷ ys) x = by (test y) (any_end test ys x)
  where
    by : (b : Bool) → list_any test (ys ++ x ∷ []) ≡ (list_any test ys || test x) → (b || list_any test (ys ++ x ∷ [])) ≡ ((b || list_any test ys) || test x)
    by true rest = refl
    by false rest = rest

-- one range more
pub top_more : (ranges : List (ℕ × ℕ)) (range : ℕ × ℕ) (b : ℕ) → greater (highest (λ n. list_any (is_between n) ranges) b) (highest (λ n. is_between n range) b) ≡ highest (λ n. list_any (is_between n) (ranges ++ range ∷ [])) b
top_more ranges range b =
    let e : (λ (n : ℕ). list_any (is_between n) (ranges ++ range ∷ [])) ≡ (λ (n : ℕ). list_any (is_between n) ranges || is_between n range) = λ j n. any_end (is_between n) ranges range j in
    sym (highest_or (λ n. list_any (is_between n) ranges) (λ n. is_between n range) b) ∙ ap (λ (p : ℕ → Bool). highest p b) (sym e)

highest_never : (p : ℕ → Bool) (b : ℕ) → ((n : ℕ) → n < b → p n ≡ false) → highest p b ≡ None
unfolding highest
highest_never p zero h = refl
highest_never p (suc b) h = rw (h b (omega arith)) (highest_never p b (λ n below. h n (omega arith)))

between_yes : (n first last : ℕ) → first ≤ n → n ≤ last → is_between n (first, last) ≡ true
between_yes n first last low high = grind (arith, nat_tests)

between_low : (n first last : ℕ) → n < first → is_between n (first, last) ≡ false
between_low n first last low = let e : nat_le first n ≡ false = grind (arith, nat_tests) in rw e refl

between_high : (n first last : ℕ) → last < n → is_between n (first, last) ≡ false
between_high n first last high = let e : nat_le n last ≡ false = grind (arith, nat_tests) in rw e (and-false (nat_le first n))

above_range : (first last b : ℕ) → last < b → first ≤ last → highest (λ n. is_between n (first, last)) b ≡ Some last
unfolding highest
above_range first last zero h k = absurd (omega arith)
above_range first last (suc b) h k = by_test (nat_le b last) refl (above_range first last b)
  where
    by_test : (t : Bool) → nat_le b last ≡ t → (last < b → first ≤ last → highest (λ n. is_between n (first, last)) b ≡ Some last) → highest (λ n. is_between n (first, last)) (suc b) ≡ Some last
    by_test true e rest =
        let most : b ≤ last = grind (arith, nat_tests) in
        let same : b ≡ last = omega arith in
        rw (between_yes b first last (omega arith) most) (ap (λ (n : ℕ). Some n) same)
    by_test false e rest =
        let more : last < b = grind (arith, nat_tests) in
        rw (between_high b first last more) (rest more k)

-- the highest number of a range below a bound: its last
pub top_last : (first last bound : ℕ) → last < bound → first ≤ last → Some last ≡ highest (λ n. is_between n (first, last)) bound
top_last first last bound h k = sym (above_range first last bound h k)

-- none, where the range is empty
pub top_empty : (first last bound : ℕ) → last < first → None ≡ highest (λ n. is_between n (first, last)) bound
top_empty first last bound h = sym (highest_never (λ n. is_between n (first, last)) bound outside)
  where
    outside : (n : ℕ) → n < bound → is_between n (first, last) ≡ false
    outside n below = by_test (nat_le n last) refl
      where
        by_test : (t : Bool) → nat_le n last ≡ t → is_between n (first, last) ≡ false
        by_test true k =
            let most : n ≤ last = grind (arith, nat_tests) in
            between_low n first last (omega arith)
        by_test false k =
            let more : last < n = grind (arith, nat_tests) in
            between_high n first last more

pub top_whole : (range : ℕ × ℕ) (bound : ℕ) → range.1 < bound → last_of range ≡ highest (λ n. is_between n range) bound
top_whole range bound h = by_test (nat_le range.0 range.1) refl
  where
    by_test : (t : Bool) → nat_le range.0 range.1 ≡ t → cond t (Some range.1) None ≡ highest (λ n. is_between n range) bound
    by_test true k = let low : range.0 ≤ range.1 = grind (arith, nat_tests) in top_last range.0 range.1 bound h low
    by_test false k = let more : range.1 < range.0 = grind (arith, nat_tests) in top_empty range.0 range.1 bound more

-- the one below the bound
pub top_bound : (first last bound : ℕ) → bound ≤ last → first < bound → Some (bound - 1) ≡ highest (λ n. is_between n (first, last)) bound
unfolding highest
top_bound first last zero h k = absurd (omega arith)
top_bound first last (suc b) h k =
    let same : suc b - 1 ≡ b = omega arith in
    rw (same, between_yes b first last (omega arith) (omega arith)) refl

-- none, where the range begins later
pub top_later : (first last bound : ℕ) → bound ≤ first → None ≡ highest (λ n. is_between n (first, last)) bound
top_later first last bound h = sym (highest_never (λ n. is_between n (first, last)) bound (λ n below. between_low n first last (omega arith)))

pub top_step : (ranges items : List (ℕ × ℕ)) (i b : ℕ) (d : ℕ × ℕ) → items ≡ ranges → i < length items
    → greater (highest (λ n. list_any (is_between n) (take i ranges)) b) (highest (λ n. is_between n (get_or items i d)) b) ≡ highest (λ n. list_any (is_between n) (take (i + 1) ranges)) b
top_step ranges items i b d same below =
    rw (← same) (top_more (take i items) (get_or items i d) b ∙ ap (λ (rs : List (ℕ × ℕ)). highest (λ n. list_any (is_between n) rs) b) (sym (take_more items i d below)))

-- the numbers that a pool may still give
abbrev pub is_left : Pool → Ids → Ids → ℕ → Bool
is_left pool users groups n = pooled_by pool n && not (is_held users n) && not (is_held groups n)

left_is : (pool : Pool) (users groups : Ids) (n : ℕ) → is_left pool users groups n ≡ (list_any (is_between n) pool.ranges.items && is_free_in pool users groups n)
left_is pool users groups n = by (list_any (is_between n) pool.ranges.items)
  where
    by : (b : Bool) → (b && not (n == 0) && not (n == 65535) && not (set.contains nat_eq pool.fixed n) && not (is_held users n) && not (is_held groups n)) ≡ (b && is_free_in pool users groups n)
    by true = refl
    by false = refl

-- the highest number that is left, by the highest one of the ranges
left_step : (pool : Pool) (users groups : Ids) (bound : ℕ) (o : Option ℕ) → o ≡ highest (λ n. list_any (is_between n) pool.ranges.items) bound
    → highest (is_left pool users groups) bound ≡ (elim o as (λ _. Option ℕ) [ None ↦ None | Some n ↦ if is_free_in pool users groups n then Some n else highest (λ m. list_any (is_between m) pool.ranges.items && is_free_in pool users groups m) n ])
left_step pool users groups bound o e =
    let whole : (λ (n : ℕ). is_left pool users groups n) ≡ (λ (n : ℕ). list_any (is_between n) pool.ranges.items && is_free_in pool users groups n) = λ j n. left_is pool users groups n j in
    ap (λ (p : ℕ → Bool). highest p bound) whole ∙ highest_both (λ n. list_any (is_between n) pool.ranges.items) (is_free_in pool users groups) bound o e

pub left_none : (pool : Pool) (users groups : Ids) (bound : ℕ) → None ≡ highest (λ n. list_any (is_between n) pool.ranges.items) bound → None ≡ highest (is_left pool users groups) bound
left_none pool users groups bound e = sym (left_step pool users groups bound None e)

pub left_found : (pool : Pool) (users groups : Ids) (bound n : ℕ) → Some n ≡ highest (λ m. list_any (is_between m) pool.ranges.items) bound → is_free_in pool users groups n ≡ true → Some n ≡ highest (is_left pool users groups) bound
left_found pool users groups bound n e free = sym (left_step pool users groups bound (Some n) e ∙ rw free refl)

pub left_passed : (pool : Pool) (users groups : Ids) (bound n : ℕ) → Some n ≡ highest (λ m. list_any (is_between m) pool.ranges.items) bound → is_free_in pool users groups n ≡ false
    → highest (is_left pool users groups) n ≡ highest (is_left pool users groups) bound
left_passed pool users groups bound n e free =
    let whole : (λ (m : ℕ). is_left pool users groups m) ≡ (λ (m : ℕ). list_any (is_between m) pool.ranges.items && is_free_in pool users groups m) = λ j m. left_is pool users groups m j in
    ap (λ (p : ℕ → Bool). highest p n) whole ∙ sym (left_step pool users groups bound (Some n) e ∙ rw free refl)

pub top_below : (ranges : List (ℕ × ℕ)) (bound n : ℕ) → Some n ≡ highest (λ m. list_any (is_between m) ranges) bound → n < bound
top_below ranges bound n e = highest_below (λ m. list_any (is_between m) ranges) bound n (sym e)
