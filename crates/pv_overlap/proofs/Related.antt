-- Heads in order: which of them begin the next.
use Rattle.std.proofs.Common.{◌≡◌, ◌≢◌, ℕ, zero, suc, ◌+◌, ◌<◌, inl, inr, Bool, true, false, ◌||◌, List, [], ◌∷◌, ◌++◌, length, filter, get_or, Contains, cond, refl, sym, ap, ◌∙◌, subst, arith}
use Rattle.std.specs.Ordering.{ordering_reverse}
use Rattle.std.specs.declared.cmp.Ordering.{Ordering}
use Rattle.std.specs.declared.cmp.Ordering.TheVariants.{Less, Equal, Greater}
use Rattle.std.proofs.lemmas.Bool.{cases_lt}
use Rattle.std.proofs.lemmas.List.Elements.{All-push, All-contains, All-filter, All-weaker, Contains-push, Contains-append_left}
use Rattle.std.proofs.lemmas.List.Kept.{AllPairs-filter}
use Rattle.pv_path.specs.Paths.{Path, path_cmp, path_total, is_prefix}
use Rattle.pv_path.proofs.PathLaws.{path_cmp-exact, prefix_between, prefix_not_greater, is_prefix-refl}
use Rattle.pv_overlap.specs.declared.walk.Head.{Head}
use Rattle.pv_overlap.specs.Heads.{related}
use Rattle.pv_overlap.specs.Walk.{IsOpen, IsOrderOf, head_at}
use Rattle.pv_overlap.proofs.Pairs.{AllPairs-append, AllPairs-one, in_one}

-- paths that come no later than each other are the same
both_first : (p q : Path) → path_cmp p q ≢ Greater → path_cmp q p ≢ Greater → p ≡ q
both_first p q m n = by (path_cmp p q) refl (λ e. n (path_total.antisymm q p ∙ ap ordering_reverse e))
  where
    by : (o : Ordering) → path_cmp p q ≡ o → (path_cmp p q ≡ Less → ⊥) → p ≡ q
    by Less e less = absurd (less e)
    by Equal e less = path_cmp-exact p q e
    by Greater e less = absurd (m e)

-- of related paths the one that comes first begins the other
pub first_begins : (p q : Path) → path_cmp p q ≢ Greater → related p q ≡ true → is_prefix p q ≡ true
first_begins p q first e = by (is_prefix p q) refl
  where
    by : (t : Bool) → is_prefix p q ≡ t → is_prefix p q ≡ true
    by true is = is
    by false is =
        let back : is_prefix q p ≡ true = sym (ap (λ t. t || is_prefix q p) is) ∙ e in
        let same = both_first p q first (prefix_not_greater q p back) in
        ap (λ x. is_prefix p x) (sym same) ∙ is_prefix-refl p

contains_filter : (test : ℕ → Bool) (xs : List ℕ) (x : ℕ) → Contains xs x → test x ≡ true → Contains (filter test xs) x
contains_filter test [] x h e = absurd (let l = h.1 in omega arith)
contains_filter test (y ∷ xs) x h e = by (test y) refl h.0 h.1 h.2 (λ c. contains_filter test xs x c e)
  where
    more : (zs : List ℕ) → Contains zs x → Contains (y ∷ zs) x
    more zs c = (suc c.0, (let l = c.1 in omega arith), c.2)

    by : (t : Bool) → test y ≡ t → (k : ℕ) → k < length (y ∷ xs) → get_or (y ∷ xs) k x ≡ x → (Contains xs x → Contains (filter test xs) x) → Contains (cond (test y) (y ∷ filter test xs) (filter test xs)) x
    by true is zero l at on = subst (λ (t : Bool). Contains (cond t (y ∷ filter test xs) (filter test xs)) x) (sym is) (0, omega arith, at)
    by true is (suc k) l at on = subst (λ (t : Bool). Contains (cond t (y ∷ filter test xs) (filter test xs)) x) (sym is) (more (filter test xs) (on (k, omega arith, at)))
    by false is zero l at on = absurd (let differ : ◌≡◌ {A = Bool} false true = sym is ∙ ap test at ∙ e in cc)
    by false is (suc k) l at on = subst (λ (t : Bool). Contains (cond t (y ∷ filter test xs) (filter test xs)) x) (sym is) (on (k, omega arith, at))

module _ (heads : List Path) (order : List Head) (is_order : IsOrderOf heads order) (at : ℕ) (inside : at < length order) (open' : List ℕ) (is_open : IsOpen order at open') where
  abbrev begins : ℕ → Bool
  begins q = is_prefix (head_at order q).path (head_at order at).path

  -- a head below that begins the one at the place is still open
  pub kept_open : (q : ℕ) → q < at → begins q ≡ true → Contains (filter begins open') q
  kept_open q l e = contains_filter begins open' q (is_open.all q at l (omega arith) inside e) e

  -- those still open, and the place, are the open ones at the next
  pub open_next : IsOpen order (at + 1) (filter begins open' ++ at ∷ [])
  open_next = record {
    below = All-push (λ q. q < at + 1) (filter begins open') at (All-weaker (λ q. q < at) (λ q. q < at + 1) (λ q l. omega arith) (filter begins open') (All-filter begins (λ q. q < at) open' is_open.below)) (omega arith);
    rising = AllPairs-append ◌<◌ (filter begins open') (at ∷ []) (AllPairs-filter ◌<◌ begins open' is_open.rising) (AllPairs-one ◌<◌ at) (λ q p among last.
        (let same : at ≡ p = in_one at p last in subst (λ x. q < x) same (All-contains (λ q. q < at) (filter begins open') q (All-filter begins (λ q. q < at) open' is_open.below) among)));
    all = λ q p l m n e. elim (cases_lt q at) [
      | inl less ↦ Contains-append_left (filter begins open') (at ∷ []) q (kept_open q less
          (prefix_between (head_at order q).path (head_at order at).path (head_at order p).path e (is_order.sorted q at (omega arith) inside) (is_order.sorted at p (omega arith) n)))
      | inr more ↦ (let same : at ≡ q = omega arith in subst (λ x. Contains (filter begins open' ++ at ∷ []) x) same (Contains-push (filter begins open') at))
    ];
  }
