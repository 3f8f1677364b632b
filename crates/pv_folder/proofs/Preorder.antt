-- Entries in the order of their paths: the object at a path comes first, then for each child all that stands at and below it.
use Rattle.std.proofs.Common.{◌≡◌, ◌∙◌, Bool, true, false, cond, ◌||◌, T, List, [], ◌∷◌, ◌++◌, Option, Some, None, is_some, refl, sym, ap, subst, ℕ, append_assoc, append-nil}
use Rattle.std.specs.List.{AllByRecursion, flat_map, list_any}
use Rattle.std.specs.Option.{option_or}
use Rattle.std.specs.Ordering.{eq_by_cmp, is_eq, is_lt, ordering_then}
use Rattle.std.specs.declared.cmp.Ordering.TheVariants.{Less}
use Rattle.std.specs.FinMap.Entries.{below_all, find, is_sorted, is_sorted-where_key, find-where_key, same_entries, where_key}
use Rattle.pv_path.specs.Names.{name_cmp, same_bytes}
use Rattle.pv_path.specs.Paths.{Path, is_prefix, path_cmp, path_exact, path_total}
use Rattle.pv_path.proofs.PathLaws.{is_prefix-append, is_prefix-refl, is_prefix-trans, name_cmp-refl, path_cmp-refl, prefix_parts, same_bytes-decides, tied-equal}
use Rattle.pv_path.proofs.Tests.{both_T, each_T, same_tests}

-- ---- the order of paths

pub less-below : (p : Path) (n : List ℕ) (r : Path) → path_cmp p (p ++ n ∷ r) ≡ Less
less-below [] n r = refl
less-below (k ∷ p) n r = ap (λ o. ordering_then o (path_cmp p (p ++ n ∷ r))) (name_cmp-refl k) ∙ less-below p n r

less-beside : (p : Path) (n m : List ℕ) (r s : Path) → name_cmp n m ≡ Less → path_cmp (p ++ n ∷ r) (p ++ m ∷ s) ≡ Less
less-beside [] n m r s less = ap (λ o. ordering_then o (path_cmp r s)) less
less-beside (k ∷ p) n m r s less = ap (λ o. ordering_then o (path_cmp (p ++ n ∷ r) (p ++ m ∷ s))) (name_cmp-refl k) ∙ less-beside p n m r s less

-- the object at or below a child
below-child : (p : Path) (n : List ℕ) (q : Path) → is_prefix (p ++ n ∷ []) q ≡ true → (r : Path) × (q ≡ p ++ n ∷ r)
below-child p n q h =
    let parts = prefix_parts (p ++ n ∷ []) q h in
    (parts.0, parts.1 ∙ append_assoc p (n ∷ []) parts.0)

pub below-less : (p : Path) (n : List ℕ) (q : Path) → is_prefix (p ++ n ∷ []) q ≡ true → path_cmp p q ≡ Less
below-less p n q h =
    let at = below-child p n q h in
    subst (λ (x : Path). path_cmp p x ≡ Less) (sym at.1) (less-below p n at.0)

pub beside-less : (p : Path) (n m : List ℕ) (q x : Path) → name_cmp n m ≡ Less → is_prefix (p ++ n ∷ []) q ≡ true → is_prefix (p ++ m ∷ []) x ≡ true → path_cmp q x ≡ Less
beside-less p n m q x less h k =
    let one = below-child p n q h in
    let other = below-child p m x k in
    subst (λ (y : Path). path_cmp y x ≡ Less) (sym one.1) (subst (λ (y : Path). path_cmp (p ++ n ∷ one.0) y ≡ Less) (sym other.1) (less-beside p n m one.0 other.0 less))

child-prefix : (p : Path) (n : List ℕ) (r : Path) → is_prefix (p ++ n ∷ []) (p ++ n ∷ r) ≡ true
child-prefix p n r = subst (λ (x : Path). is_prefix (p ++ n ∷ []) x ≡ true) (append_assoc p (n ∷ []) r) (is_prefix-append (p ++ n ∷ []) r)

-- names that rise strictly
abbrev pub Rise : List (List ℕ) → Type 0
Rise [] = Unit {0}
Rise (n ∷ names) = AllByRecursion (λ m. name_cmp n m ≡ Less) names × Rise names

less_T : (k x : Path) → path_cmp k x ≡ Less → T (is_lt (path_cmp k x))
less_T k x e = subst (λ r. T (is_lt r)) (sym e) tt

all_below : (p : Path) (names : List (List ℕ)) → AllByRecursion (λ n. (x : Path) → is_prefix (p ++ n ∷ []) x ≡ true → path_cmp p x ≡ Less) names
all_below p [] = tt
all_below p (n ∷ names) = (below-less p n, all_below p names)

all_beside : (p : Path) (n : List ℕ) (q : Path) (names : List (List ℕ)) → is_prefix (p ++ n ∷ []) q ≡ true → AllByRecursion (λ m. name_cmp n m ≡ Less) names
    → AllByRecursion (λ m. (x : Path) → is_prefix (p ++ m ∷ []) x ≡ true → path_cmp q x ≡ Less) names
all_beside p n q [] at h = tt
all_beside p n q (m ∷ names) at h = ((λ x k. beside-less p n m q x h.0 at k), all_beside p n q names at h.1)

or_true : (b : Bool) → (b || true) ≡ true
or_true true = refl
or_true false = refl

-- what stands below a path stands at or below a child with one of the names, where that is among them
named : (p : Path) (n : List ℕ) (r : Path) (names : List (List ℕ)) → list_any (same_bytes n) names ≡ true → list_any (λ m. is_prefix (p ++ m ∷ []) (p ++ n ∷ r)) names ≡ true
named p n r [] h = cc
named p n r (m ∷ names) h = by (same_bytes n m) refl h (named p n r names)
  where
    by : (b : Bool) → same_bytes n m ≡ b → (b || list_any (same_bytes n) names) ≡ true
        → (list_any (same_bytes n) names ≡ true → list_any (λ k. is_prefix (p ++ k ∷ []) (p ++ n ∷ r)) names ≡ true)
        → (is_prefix (p ++ m ∷ []) (p ++ n ∷ r) || list_any (λ k. is_prefix (p ++ k ∷ []) (p ++ n ∷ r)) names) ≡ true
    by true e is rest =
        let same : n ≡ m = (same_bytes-decides n m).0 e in
        ap (λ b. b || list_any (λ k. is_prefix (p ++ k ∷ []) (p ++ n ∷ r)) names)
        (subst (λ (k : List ℕ). is_prefix (p ++ k ∷ []) (p ++ n ∷ r) ≡ true) same (child-prefix p n r))
    by false e is rest = ap (λ b. is_prefix (p ++ m ∷ []) (p ++ n ∷ r) || b) (rest is) ∙ or_true (is_prefix (p ++ m ∷ []) (p ++ n ∷ r))

inside : (p q : Path) (names : List (List ℕ)) → list_any (λ m. is_prefix (p ++ m ∷ []) q) names ≡ true → is_prefix p q ≡ true
inside p q [] h = cc
inside p q (m ∷ names) h = by (is_prefix (p ++ m ∷ []) q) refl h (inside p q names)
  where
    by : (b : Bool) → is_prefix (p ++ m ∷ []) q ≡ b → (b || list_any (λ k. is_prefix (p ++ k ∷ []) q) names) ≡ true
        → (list_any (λ k. is_prefix (p ++ k ∷ []) q) names ≡ true → is_prefix p q ≡ true) → is_prefix p q ≡ true
    by true e is rest = is_prefix-trans p (p ++ m ∷ []) q (is_prefix-append p (m ∷ [])) e
    by false e is rest = rest is

module _ {X : Type 0} where
  -- what is at and below a path
  abbrev pub under : List (Path × X) → Path → List (Path × X)
  under es p = where_key path_cmp (is_prefix p) es

  -- what is at and below each of the children with these names
  abbrev pub under_each : List (Path × X) → Path → List (List ℕ) → List (Path × X)
  under_each es p names = flat_map (λ n. under es (p ++ n ∷ [])) names

  -- ---- what is found

  find_both : (q : Path) (xs ys : List (Path × X)) → find path_cmp q (xs ++ ys) ≡ option_or (find path_cmp q xs) (find path_cmp q ys)
  find_both q [] ys = refl
  find_both q (x ∷ xs) ys = by (eq_by_cmp path_cmp q x.0) (find_both q xs ys)
    where
      by : (b : Bool) → find path_cmp q (xs ++ ys) ≡ option_or (find path_cmp q xs) (find path_cmp q ys)
          → cond b (Some x.1) (find path_cmp q (xs ++ ys)) ≡ option_or (cond b (Some x.1) (find path_cmp q xs)) (find path_cmp q ys)
      by true e = refl
      by false e = e

  pub find_under : (es : List (Path × X)) (p q : Path) → find path_cmp q (under es p) ≡ cond (is_prefix p q) (find path_cmp q es) None
  find_under es p q = find-where_key path_cmp (is_prefix p) q (λ x e. ap (is_prefix p) (sym (path_exact q x e))) es

  either : (a b : Bool) (o : Option X) → option_or (cond a o None) (cond b o None) ≡ cond (a || b) o None
  either true true None = refl
  either true false None = refl
  either true b (Some x) = refl
  either false b o = refl

  find_each : (es : List (Path × X)) (p : Path) (names : List (List ℕ)) (q : Path)
      → find path_cmp q (under_each es p names) ≡ cond (list_any (λ n. is_prefix (p ++ n ∷ []) q) names) (find path_cmp q es) None
  find_each es p [] q = refl
  find_each es p (n ∷ names) q =
      find_both q (under es (p ++ n ∷ [])) (under_each es p names)
      ∙ ap (λ (o : Option X). option_or o (find path_cmp q (under_each es p names))) (find_under es (p ++ n ∷ []) q)
      ∙ ap (option_or (cond (is_prefix (p ++ n ∷ []) q) (find path_cmp q es) None)) (find_each es p names q)
      ∙ either (is_prefix (p ++ n ∷ []) q) (list_any (λ m. is_prefix (p ++ m ∷ []) q) names) (find path_cmp q es)

  -- ---- it is in order

  pub under_sorted : (es : List (Path × X)) (p : Path) → T (is_sorted path_cmp es) → T (is_sorted path_cmp (under es p))
  under_sorted es p h = is_sorted-where_key path_cmp (is_prefix p) es h

  below_both : (k : Path) (xs ys : List (Path × X)) → T (below_all path_cmp k xs) → T (below_all path_cmp k ys) → T (below_all path_cmp k (xs ++ ys))
  below_both k [] ys g h = h
  below_both k (x ∷ xs) ys g h =
      let parts = each_T (is_lt (path_cmp k x.0)) (below_all path_cmp k xs) g in
      both_T (is_lt (path_cmp k x.0)) (below_all path_cmp k (xs ++ ys)) parts.0 (below_both k xs ys parts.1 h)

  sorted_both : (xs ys : List (Path × X)) → T (is_sorted path_cmp xs) → T (is_sorted path_cmp ys) → AllByRecursion (λ x. T (below_all path_cmp x.0 ys)) xs
      → T (is_sorted path_cmp (xs ++ ys))
  sorted_both [] ys g h apart = h
  sorted_both (x ∷ xs) ys g h apart =
      let parts = each_T (below_all path_cmp x.0 xs) (is_sorted path_cmp xs) g in
      both_T (below_all path_cmp x.0 (xs ++ ys)) (is_sorted path_cmp (xs ++ ys)) (below_both x.0 xs ys parts.0 apart.0) (sorted_both xs ys parts.1 h apart.1)

  below_under : (k : Path) (es : List (Path × X)) (p : Path) → ((x : Path) → is_prefix p x ≡ true → path_cmp k x ≡ Less) → T (below_all path_cmp k (under es p))
  below_under k [] p less = tt
  below_under k (e ∷ es) p less = by (is_prefix p e.0) refl (below_under k es p less)
    where
      by : (b : Bool) → is_prefix p e.0 ≡ b → T (below_all path_cmp k (under es p)) → T (below_all path_cmp k (cond b (e ∷ under es p) (under es p)))
      by true is rest = both_T (is_lt (path_cmp k e.0)) (below_all path_cmp k (under es p)) (less_T k e.0 (less e.0 is)) rest
      by false is rest = rest

  below_each : (k : Path) (es : List (Path × X)) (p : Path) (names : List (List ℕ)) → AllByRecursion (λ n. (x : Path) → is_prefix (p ++ n ∷ []) x ≡ true → path_cmp k x ≡ Less) names
      → T (below_all path_cmp k (under_each es p names))
  below_each k es p [] h = tt
  below_each k es p (n ∷ names) h = below_both k (under es (p ++ n ∷ [])) (under_each es p names) (below_under k es (p ++ n ∷ []) h.0) (below_each k es p names h.1)

  apart : (es : List (Path × X)) (p : Path) (n : List ℕ) (names : List (List ℕ)) → AllByRecursion (λ m. name_cmp n m ≡ Less) names → (xs : List (Path × X))
      → AllByRecursion (λ x. T (below_all path_cmp x.0 (under_each es p names))) (under xs (p ++ n ∷ []))
  apart es p n names h [] = tt
  apart es p n names h (x ∷ xs) = by (is_prefix (p ++ n ∷ []) x.0) refl (apart es p n names h xs)
    where
      by : (b : Bool) → is_prefix (p ++ n ∷ []) x.0 ≡ b → AllByRecursion (λ y. T (below_all path_cmp y.0 (under_each es p names))) (under xs (p ++ n ∷ []))
          → AllByRecursion (λ y. T (below_all path_cmp y.0 (under_each es p names))) (cond b (x ∷ under xs (p ++ n ∷ [])) (under xs (p ++ n ∷ [])))
      by true is rest = (below_each x.0 es p names (all_beside p n x.0 names is h), rest)
      by false is rest = rest

  each_sorted : (es : List (Path × X)) (p : Path) (names : List (List ℕ)) → T (is_sorted path_cmp es) → Rise names → T (is_sorted path_cmp (under_each es p names))
  each_sorted es p [] h rise = tt
  each_sorted es p (n ∷ names) h rise =
      sorted_both (under es (p ++ n ∷ [])) (under_each es p names) (under_sorted es (p ++ n ∷ []) h) (each_sorted es p names h rise.1) (apart es p n names rise.0 es)

  -- ---- a path and what lies below it

  module _ (es : List (Path × X)) (p : Path) (o : X) (names : List (List ℕ)) (rise : T (is_sorted path_cmp es)) (at : find path_cmp p es ≡ Some o)
      (there : (n : List ℕ) → is_some (find path_cmp (p ++ n ∷ []) es) ≡ true → list_any (same_bytes n) names ≡ true)
      (closed : (n : List ℕ) (r : Path) → is_some (find path_cmp (p ++ n ∷ r) es) ≡ true → is_some (find path_cmp (p ++ n ∷ []) es) ≡ true) where
    reached : (q : Path) (x : X) → find path_cmp q es ≡ Some x → eq_by_cmp path_cmp q p ≡ false → is_prefix p q ≡ true → list_any (λ m. is_prefix (p ++ m ∷ []) q) names ≡ true
    reached q x is other below =
        let parts = prefix_parts p q below in
        by parts.0 parts.1
      where
        by : (r : Path) → q ≡ p ++ r → list_any (λ m. is_prefix (p ++ m ∷ []) q) names ≡ true
        by [] e = absurd (let no : true ≡ false = sym (ap is_eq (path_cmp-refl p)) ∙ ap (λ (y : Path). eq_by_cmp path_cmp y p) (sym (e ∙ append-nil p)) ∙ other in cc)
        by (n ∷ r) e =
            let present : is_some (find path_cmp (p ++ n ∷ r) es) ≡ true = ap (λ (y : Path). is_some (find path_cmp y es)) (sym e) ∙ ap is_some is in
            subst (λ (y : Path). list_any (λ m. is_prefix (p ++ m ∷ []) y) names ≡ true) (sym e) (named p n r names (there n (closed n r present)))

    found : (q : Path) → find path_cmp q (under es p) ≡ find path_cmp q ((p, o) ∷ under_each es p names)
    found q = find_under es p q ∙ by (eq_by_cmp path_cmp q p) refl
      where
        nothing : (a b : Bool) → ◌≡◌ {A = Option X} (cond a None None) (cond b None None)
        nothing true true = refl
        nothing true false = refl
        nothing false true = refl
        nothing false false = refl

        by_found : (f : Option X) → find path_cmp q es ≡ f → eq_by_cmp path_cmp q p ≡ false → cond (is_prefix p q) f None ≡ cond (list_any (λ m. is_prefix (p ++ m ∷ []) q) names) f None
        by_found None e other = nothing (is_prefix p q) (list_any (λ m. is_prefix (p ++ m ∷ []) q) names)
        by_found (Some x) e other =
            ap (λ b. cond b (Some x) None) (same_tests (is_prefix p q) (list_any (λ m. is_prefix (p ++ m ∷ []) q) names) (reached q x e other) (inside p q names))

        by : (b : Bool) → eq_by_cmp path_cmp q p ≡ b → cond (is_prefix p q) (find path_cmp q es) None ≡ cond b (Some o) (find path_cmp q (under_each es p names))
        by true e =
            let same : q ≡ p = tied-equal q p e in
            ap (λ (y : Path). cond (is_prefix p y) (find path_cmp y es) None) same
            ∙ ap (λ b. cond b (find path_cmp p es) None) (is_prefix-refl p) ∙ at
        by false e = by_found (find path_cmp q es) refl e ∙ sym (find_each es p names q)

    -- what is at and below a path: it, and then what is at and below each of its children
    pub preorder : Rise names → under es p ≡ (p, o) ∷ under_each es p names
    preorder up =
        same_entries path_cmp path_total path_exact (under es p) ((p, o) ∷ under_each es p names) (under_sorted es p rise)
        (both_T (below_all path_cmp p (under_each es p names)) (is_sorted path_cmp (under_each es p names)) (below_each p es p names (all_below p names)) (each_sorted es p names rise up))
        found
