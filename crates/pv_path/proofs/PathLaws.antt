-- Laws of paths, for proofs of the crates above.
use Rattle.std.specs.Prelude.{◌≡◌, ◌≢◌, ℕ, ◌-◌, ◌≤◌, Bool, true, false, not, ◌&&◌, ◌||◌, nat_le, List, [], ◌∷◌, ◌++◌, length, take, drop, Option, Some, None, is_some, slice_get, refl, ◌⊎◌}
use Rattle.std.specs.List.{list_all}
use Rattle.std.specs.Bool.{Decides}
use Rattle.std.specs.Ordering.{eq_by_cmp, is_eq, nat_cmp, ordering_reverse}
use Rattle.std.specs.Cmp.{IsTotalOrder}
use Rattle.std.specs.Cmp.Lexicographic.{slice_cmp, bytes_decides, nat_list_cmp_total}
use Rattle.std.specs.FinMap.{slice_cmp-IsAntisymmetric, nat_cmp-IsAntisymmetric}
use Rattle.std.specs.declared.cmp.Ordering.{Ordering}
use Rattle.std.specs.declared.cmp.Ordering.TheVariants.{Less, Equal, Greater}
use Rattle.std.proofs.Common.{subst, sym, ◌∙◌, ap, inl, inr, suc, arith, append-nil, append_assoc, length-append}
use Rattle.std.proofs.lemmas.Bool.Decides.{nat_tests}
use Rattle.std.proofs.Math.Seq.{take-append_seam, drop-append_seam}
use Rattle.std.proofs.lemmas.List.{take-append-drop, length-take}
use Rattle.std.proofs.lemmas.List.Folds.{list_all-append, list_any-append}
use Rattle.std.proofs.lemmas.Bool.{and_parts}
use Rattle.std.proofs.Math.Bool.{or-true}
use Rattle.pv_path.proofs.Tests.{equal_of, first_false, same_tests, true_not_false}
use Rattle.pv_path.specs.Names.{name_cmp, same_bytes, is_name, is_name_byte, is_dots, is_staging, staging_name}
use Rattle.pv_path.specs.Paths.{Path, has_names, path_cmp, path_total, path_exact, same_path, same_path-decides, rest_under, is_prefix, parent_of, last_name, has_staging, staging_of}

-- ---- the tests of equality decide it

pub same_bytes-decides : (a b : List ℕ) → Decides (same_bytes a b) (a ≡ b)
same_bytes-decides = bytes_decides

pub same_bytes-refl : (a : List ℕ) → same_bytes a a ≡ true
same_bytes-refl a = (bytes_decides a a).1 refl

pub same_path-refl : (p : Path) → same_path p p ≡ true
same_path-refl p = (same_path-decides p p).1 refl

-- two names are the same, or they differ, with what the test answers
abbrev pub SameOrNot : List ℕ → List ℕ → Type 0
SameOrNot n m = ((n ≡ m) × (same_bytes n m ≡ true)) ⊎ ((n ≢ m) × (same_bytes n m ≡ false))

pub names_cases : (a b : List ℕ) → SameOrNot a b
names_cases a b = by_test (same_bytes a b) refl
  where
    by_test : (t : Bool) → same_bytes a b ≡ t → SameOrNot a b
    by_test true e = inl ((bytes_decides a b).0 e, e)
    by_test false e = inr ((λ q. absurd (let t : same_bytes a b ≡ true = (bytes_decides a b).1 q in cc)), e)

-- ---- the order

-- a total order ties each value with itself
tied : {K : Type 0} {R : K → K → Ordering} → IsTotalOrder R → (x : K) → R x x ≡ Equal
tied {R = R} o x = by_value (R x x) (o.antisymm x x)
  where
    by_value : (r : Ordering) → r ≡ ordering_reverse r → r ≡ Equal
    by_value Less e = cc
    by_value Equal e = refl
    by_value Greater e = cc

pub path_cmp-refl : (p : Path) → path_cmp p p ≡ Equal
path_cmp-refl = tied path_total

pub name_cmp-refl : (a : List ℕ) → name_cmp a a ≡ Equal
name_cmp-refl = tied nat_list_cmp_total

pub name_cmp-exact : (a b : List ℕ) → name_cmp a b ≡ Equal → a ≡ b
name_cmp-exact = slice_cmp-IsAntisymmetric nat_cmp-IsAntisymmetric

-- the order finds two paths equal only if they are
pub path_cmp-exact : (p q : Path) → path_cmp p q ≡ Equal → p ≡ q
path_cmp-exact = path_exact

-- ---- what follows a prefix

pub rest_under-append : (p r : Path) → rest_under p (p ++ r) ≡ Some r
rest_under-append [] r = refl
rest_under-append (n ∷ p) r = rw same_bytes-refl (rest_under-append p r)

pub rest_under-self : (p : Path) → rest_under p p ≡ Some []
rest_under-self [] = refl
rest_under-self (n ∷ p) = rw same_bytes-refl (rest_under-self p)

pub rest_under-Some : (p q r : Path) → rest_under p q ≡ Some r → q ≡ p ++ r
rest_under-Some [] q r e = cc
rest_under-Some (n ∷ p) [] r e = cc
rest_under-Some (n ∷ p) (m ∷ q) r e = by_names (rest_under-Some p q r) (names_cases n m)
  where
    by_names : (rest_under p q ≡ Some r → q ≡ p ++ r) → SameOrNot n m → m ∷ q ≡ n ∷ (p ++ r)
    by_names below (inl s) = let is : q ≡ p ++ r = below (rw s.1 at e) in cc
    by_names below (inr d) = absurd (let none : None ≡ Some r = rw d.1 at e in cc)

-- a path has a rest exactly under its prefixes
pub is_some-rest_under : (p q : Path) → is_some (rest_under p q) ≡ is_prefix p q
is_some-rest_under [] q = refl
is_some-rest_under (n ∷ p) [] = refl
is_some-rest_under (n ∷ p) (m ∷ q) = by_test (is_some-rest_under p q) (same_bytes n m) refl
  where
    by_test : is_some (rest_under p q) ≡ is_prefix p q → (t : Bool) → same_bytes n m ≡ t → is_some (rest_under (n ∷ p) (m ∷ q)) ≡ is_prefix (n ∷ p) (m ∷ q)
    by_test below true e = rw e below
    by_test below false e = rw e

pub rest_under-drop : (p q r : Path) → rest_under p q ≡ Some r → drop (length p) q ≡ r
rest_under-drop p q r e = rw (rest_under-Some p q r e) (drop-append_seam p r)

-- ---- prefixes

pub is_prefix-append : (p r : Path) → is_prefix p (p ++ r) ≡ true
is_prefix-append [] r = refl
is_prefix-append (n ∷ p) r = rw same_bytes-refl (is_prefix-append p r)

pub is_prefix-refl : (p : Path) → is_prefix p p ≡ true
is_prefix-refl [] = refl
is_prefix-refl (n ∷ p) = rw same_bytes-refl (is_prefix-refl p)

-- under a prefix there is a rest
pub prefix_rest : (p q : Path) → is_prefix p q ≡ true → (r : Path) × (rest_under p q ≡ Some r)
prefix_rest p q e = by_rest (rest_under p q) refl
  where
    by_rest : (o : Option Path) → rest_under p q ≡ o → (r : Path) × (rest_under p q ≡ Some r)
    by_rest None is = absurd (let no : is_some (rest_under p q) ≡ false = ap is_some is in let yes = is_some-rest_under p q in cc)
    by_rest (Some r) is = (r, is)

-- a path that begins with a prefix is the prefix and a rest
pub prefix_parts : (p q : Path) → is_prefix p q ≡ true → (r : Path) × (q ≡ p ++ r)
prefix_parts p q e = let w = prefix_rest p q e in (w.0, rest_under-Some p q w.0 w.1)

-- there is no rest under what is no prefix
pub rest_under-None : (p q : Path) → is_prefix p q ≡ false → rest_under p q ≡ None
rest_under-None p q e = by_rest (rest_under p q) refl
  where
    by_rest : (o : Option Path) → rest_under p q ≡ o → rest_under p q ≡ None
    by_rest None is = is
    by_rest (Some r) is = absurd (let yes : is_some (rest_under p q) ≡ true = ap is_some is in let no = is_some-rest_under p q in cc)

pub is_prefix-trans : (p q r : Path) → is_prefix p q ≡ true → is_prefix q r ≡ true → is_prefix p r ≡ true
is_prefix-trans p q r a b =
    let u = prefix_parts p q a in
    let v = prefix_parts q r b in
    let is : r ≡ p ++ (u.0 ++ v.0) = v.1 ∙ ap (λ (s : Path). s ++ v.0) u.1 ∙ append_assoc p u.0 v.0 in
    rw is (is_prefix-append p (u.0 ++ v.0))

no_names : (r : Path) → length r ≡ 0 → r ≡ []
no_names [] e = refl
no_names (n ∷ r) e = absurd (omega arith)

pub length-prefix : (p q : Path) → is_prefix p q ≡ true → length p ≤ length q
length-prefix p q e = let u = prefix_parts p q e in let n = ap length u.1 in omega (arith, n, length-append p u.0)

-- a prefix that is no shorter is the path
pub prefix_whole : (p q : Path) → is_prefix p q ≡ true → length q ≤ length p → p ≡ q
prefix_whole p q e l =
    let u = prefix_parts p q e in
    let n = ap length u.1 in
    let none : u.0 ≡ [] = no_names u.0 (omega (arith, n, length-append p u.0)) in
    sym (u.1 ∙ ap (λ (s : Path). p ++ s) none ∙ append-nil p)

pub is_prefix-antisym : (p q : Path) → is_prefix p q ≡ true → is_prefix q p ≡ true → p ≡ q
is_prefix-antisym p q a b = prefix_whole p q a (length-prefix q p b)

-- of two prefixes of one path one is a prefix of the other
pub prefixes_compare : (p q r : Path) → is_prefix p r ≡ true → is_prefix q r ≡ true → (is_prefix p q ≡ true) ⊎ (is_prefix q p ≡ true)
prefixes_compare [] q r a b = inl refl
prefixes_compare (n ∷ p) [] r a b = inr refl
prefixes_compare (n ∷ p) (m ∷ q) [] a b = cc
prefixes_compare (n ∷ p) (m ∷ q) (k ∷ r) a b =
    let u = and_parts (same_bytes n k) (is_prefix p r) a in
    let v = and_parts (same_bytes m k) (is_prefix q r) b in
    let same : n ≡ m = (bytes_decides n k).0 u.0 ∙ sym ((bytes_decides m k).0 v.0) in
    by_below ((bytes_decides n m).1 same) ((bytes_decides m n).1 (sym same)) (prefixes_compare p q r u.1 v.1)
  where
    by_below : same_bytes n m ≡ true → same_bytes m n ≡ true → (is_prefix p q ≡ true) ⊎ (is_prefix q p ≡ true) → (is_prefix (n ∷ p) (m ∷ q) ≡ true) ⊎ (is_prefix (m ∷ q) (n ∷ p) ≡ true)
    by_below s t (inl h) = inl (rw s h)
    by_below s t (inr h) = inr (rw t h)

-- ---- the parent and the last name

-- a path is the root, or a path and a last name
pub path_ends : (p : Path) → (p ≡ []) ⊎ ((q : Path) × (n : List ℕ) × (p ≡ q ++ n ∷ []))
path_ends [] = inl refl
path_ends (m ∷ p) = inr (by_end (path_ends p))
  where
    by_end : (p ≡ []) ⊎ ((q : Path) × (n : List ℕ) × (p ≡ q ++ n ∷ [])) → (q : Path) × (n : List ℕ) × (m ∷ p ≡ q ++ n ∷ [])
    by_end (inl e) = ([], m, ap (λ (s : Path). m ∷ s) e)
    by_end (inr w) = (m ∷ w.0, w.1, ap (λ (s : Path). m ∷ s) w.2)

pub parent_of-push : (p : Path) (n : List ℕ) → parent_of (p ++ n ∷ []) ≡ p
parent_of-push p n =
    let l : length (p ++ n ∷ []) - 1 ≡ length p = omega (arith, length-append p (n ∷ [])) in
    rw l (take-append_seam p (n ∷ []))

slice_get-push : (p : Path) (n : List ℕ) → slice_get (p ++ n ∷ []) (length p) ≡ Some n
slice_get-push [] n = refl
slice_get-push (m ∷ p) n = slice_get-push p n

pub last_name-push : (p : Path) (n : List ℕ) → last_name (p ++ n ∷ []) ≡ Some n
last_name-push p n =
    let l : length (p ++ n ∷ []) - 1 ≡ length p = omega (arith, length-append p (n ∷ [])) in
    rw l (slice_get-push p n)

-- a path with a last name is its parent and this name
pub path_parts : (p : Path) (n : List ℕ) → last_name p ≡ Some n → p ≡ parent_of p ++ n ∷ []
path_parts p n e = by_end (path_ends p)
  where
    by_end : (p ≡ []) ⊎ ((q : Path) × (m : List ℕ) × (p ≡ q ++ m ∷ [])) → p ≡ parent_of p ++ n ∷ []
    by_end (inl is) = absurd (let none : None ≡ Some n = rw is at e in cc)
    by_end (inr w) =
        let up : parent_of p ≡ w.0 = ap parent_of w.2 ∙ parent_of-push w.0 w.1 in
        let last : Some n ≡ Some w.1 = sym e ∙ ap last_name w.2 ∙ last_name-push w.0 w.1 in
        rw up (w.2 ∙ ap (λ (m : List ℕ). w.0 ++ m ∷ []) (let is : w.1 ≡ n = cc in is))

-- only the root has no last name
pub no_last_name : (p : Path) → last_name p ≡ None → p ≡ []
no_last_name p e = by_end (path_ends p)
  where
    by_end : (p ≡ []) ⊎ ((q : Path) × (m : List ℕ) × (p ≡ q ++ m ∷ [])) → p ≡ []
    by_end (inl is) = is
    by_end (inr w) = absurd (let last : None ≡ Some w.1 = sym e ∙ ap last_name w.2 ∙ last_name-push w.0 w.1 in cc)

-- a path that is not the root is its parent and a name
pub parent_parts : (p : Path) → p ≢ [] → (n : List ℕ) × (p ≡ parent_of p ++ n ∷ [])
parent_parts p other = by_end (path_ends p)
  where
    by_end : (p ≡ []) ⊎ ((q : Path) × (m : List ℕ) × (p ≡ q ++ m ∷ [])) → (n : List ℕ) × (p ≡ parent_of p ++ n ∷ [])
    by_end (inl is) = absurd (other is)
    by_end (inr w) = (w.1, w.2 ∙ ap (λ (s : Path). s ++ w.1 ∷ []) (sym (ap parent_of w.2 ∙ parent_of-push w.0 w.1)))

pub parent_of-is_prefix : (p : Path) → is_prefix (parent_of p) p ≡ true
parent_of-is_prefix p = by_end (path_ends p)
  where
    by_end : (p ≡ []) ⊎ ((q : Path) × (m : List ℕ) × (p ≡ q ++ m ∷ [])) → is_prefix (parent_of p) p ≡ true
    by_end (inl is) = rw is
    by_end (inr w) = rw (w.2, parent_of-push) (is_prefix-append w.0 (w.1 ∷ []))

pub length-parent_of : (p : Path) → length (parent_of p) ≡ length p - 1
length-parent_of p = omega (arith, length-take (length p - 1) p)

-- no path but the root is its own parent
pub parent_of-differs : (p : Path) → p ≢ [] → parent_of p ≢ p
parent_of-differs [] other e = other refl
parent_of-differs (n ∷ p) other e = let l = ap length e in omega (arith, length-parent_of (n ∷ p))

-- a prefix of a path that is not the path is a prefix of its parent
pub is_prefix-parent_of : (p q : Path) → is_prefix p q ≡ true → p ≢ q → is_prefix p (parent_of q) ≡ true
is_prefix-parent_of p q e other = let u = prefix_parts p q e in by_end u.0 u.1 (path_ends u.0)
  where
    by_end : (r : Path) → q ≡ p ++ r → (r ≡ []) ⊎ ((s : Path) × (n : List ℕ) × (r ≡ s ++ n ∷ [])) → is_prefix p (parent_of q) ≡ true
    by_end r is (inl none) = absurd (other (sym (is ∙ ap (λ (s : Path). p ++ s) none ∙ append-nil p)))
    by_end r is (inr w) =
        let cut : q ≡ (p ++ w.0) ++ w.1 ∷ [] = is ∙ ap (λ (s : Path). p ++ s) w.2 ∙ sym (append_assoc p w.0 (w.1 ∷ [])) in
        let up : parent_of q ≡ p ++ w.0 = ap parent_of cut ∙ parent_of-push (p ++ w.0) w.1 in
        rw up (is_prefix-append p w.0)

-- ---- prefixes in the order

path_cmp-append : (p r : Path) → path_cmp p (p ++ r) ≢ Greater
path_cmp-append [] [] e = absurd (let other : Equal ≡ Greater = e in cc)
path_cmp-append [] (n ∷ r) e = absurd (let other : Less ≡ Greater = e in cc)
path_cmp-append (n ∷ p) r e = path_cmp-append p r (rw (name_cmp-refl n) at e)

-- a prefix comes before what extends it
pub prefix_not_greater : (p q : Path) → is_prefix p q ≡ true → path_cmp p q ≢ Greater
prefix_not_greater p q e = let u = prefix_parts p q e in rw u.1 (path_cmp-append p u.0)

-- what lies between a prefix and a path that begins with it begins with it too
pub prefix_between : (p r q : Path) → is_prefix p q ≡ true → path_cmp p r ≢ Greater → path_cmp r q ≢ Greater → is_prefix p r ≡ true
prefix_between [] r q e a b = refl
prefix_between (n ∷ p) r [] e a b = cc
prefix_between (n ∷ p) [] (m ∷ q) e a b = absurd (a refl)
prefix_between (n ∷ p) (k ∷ r) (m ∷ q) e a b =
    let u = and_parts (same_bytes n m) (is_prefix p q) e in
    let same : n ≡ m = (bytes_decides n m).0 u.0 in
    by_order (slice_cmp nat_cmp n k) refl (nat_list_cmp_total.antisymm k n ∙ refl) same (prefix_between p r q u.1)
  where
    by_order : (o : Ordering) → slice_cmp nat_cmp n k ≡ o → slice_cmp nat_cmp k n ≡ ordering_reverse (slice_cmp nat_cmp n k) → n ≡ m
        → (path_cmp p r ≢ Greater → path_cmp r q ≢ Greater → is_prefix p r ≡ true) → is_prefix (n ∷ p) (k ∷ r) ≡ true
    by_order Less is back same below =
        let over : slice_cmp nat_cmp k m ≡ Greater = ap (slice_cmp nat_cmp k) (sym same) ∙ back ∙ ap ordering_reverse is in
        absurd (b (rw over))
    by_order Equal is back same below =
        let also : slice_cmp nat_cmp k m ≡ Equal = ap (slice_cmp nat_cmp k) (sym same) ∙ back ∙ ap ordering_reverse is in
        let one : same_bytes n k ≡ true = (bytes_decides n k).1 (name_cmp-exact n k is) in
        rw one (below (λ g. a (rw is g)) (λ g. b (rw also g)))
    by_order Greater is back same below = absurd (a (rw is))

-- ---- names

pub is_name-parts : (n : List ℕ) → is_name n ≡ true → (1 ≤ length n) × (length n ≤ 255) × (list_all is_name_byte n ≡ true) × (is_dots n ≡ false)
is_name-parts n e =
    let u = and_parts _ (not (is_dots n)) e in
    let v = and_parts _ (list_all is_name_byte n) u.0 in
    let w = and_parts (nat_le 1 (length n)) (nat_le (length n) 255) v.0 in
    (grind (arith, nat_tests), grind (arith, nat_tests), v.1, grind (arith, nat_tests))

pub is_name-from : (n : List ℕ) → 1 ≤ length n → length n ≤ 255 → list_all is_name_byte n ≡ true → is_dots n ≡ false → is_name n ≡ true
is_name-from n a b c d = grind (arith, nat_tests)

pub has_names-append : (p q : Path) → has_names (p ++ q) ≡ (has_names p && has_names q)
has_names-append = list_all-append is_name

pub has_names-both : (p q : Path) → has_names p ≡ true → has_names q ≡ true → has_names (p ++ q) ≡ true
has_names-both p q a b = rw (has_names-append p q, a, b)

pub has_names-push : (p : Path) (n : List ℕ) → has_names p ≡ true → is_name n ≡ true → has_names (p ++ n ∷ []) ≡ true
has_names-push p n a b = rw (has_names-append p (n ∷ []), a, b)

pub has_names-take : (i : ℕ) (p : Path) → has_names p ≡ true → has_names (take i p) ≡ true
has_names-take i p e = (and_parts (has_names (take i p)) (has_names (drop i p)) (sym (has_names-append (take i p) (drop i p)) ∙ ap has_names (take-append-drop i p) ∙ e)).0

pub has_names-prefix : (p q : Path) → is_prefix p q ≡ true → has_names q ≡ true → has_names p ≡ true
has_names-prefix p q above names =
    let parts = prefix_parts p q above in
    (and_parts (has_names p) (has_names parts.0) (sym (has_names-append p parts.0) ∙ ap has_names (sym parts.1) ∙ names)).0

pub has_names-drop : (i : ℕ) (p : Path) → has_names p ≡ true → has_names (drop i p) ≡ true
has_names-drop i p e = (and_parts (has_names (take i p)) (has_names (drop i p)) (sym (has_names-append (take i p) (drop i p)) ∙ ap has_names (take-append-drop i p) ∙ e)).1

pub has_names-rest : (p q r : Path) → rest_under p q ≡ Some r → has_names q ≡ true → has_names r ≡ true
has_names-rest p q r e h = rw (← (rest_under-drop p q r e)) (has_names-drop (length p) q h)

pub is_name-last_name : (p : Path) (n : List ℕ) → has_names p ≡ true → last_name p ≡ Some n → is_name n ≡ true
is_name-last_name p n h e =
    let whole : has_names (parent_of p ++ n ∷ []) ≡ true = sym (ap has_names (path_parts p n e)) ∙ h in
    let last = and_parts (has_names (parent_of p)) (has_names (n ∷ [])) (sym (has_names-append (parent_of p) (n ∷ [])) ∙ whole) in
    (and_parts (is_name n) true last.1).0

-- ---- staging names

pub staging_of-push : (p : Path) (n : List ℕ) → staging_of (p ++ n ∷ []) ≡ p ++ staging_name n ∷ []
staging_of-push [] n = refl
staging_of-push (m ∷ []) n = refl
staging_of-push (m ∷ k ∷ p) n = ap (λ (s : Path). m ∷ s) (staging_of-push (k ∷ p) n)

pub parent_of-staging_of : (p : Path) → parent_of (staging_of p) ≡ parent_of p
parent_of-staging_of p = by_end (path_ends p)
  where
    by_end : (p ≡ []) ⊎ ((q : Path) × (m : List ℕ) × (p ≡ q ++ m ∷ [])) → parent_of (staging_of p) ≡ parent_of p
    by_end (inl is) = rw is
    by_end (inr w) = rw (w.2, staging_of-push, parent_of-push w.0 (staging_name w.1), parent_of-push w.0 w.1)

pub length-staging_of : (p : Path) → length (staging_of p) ≡ length p
length-staging_of [] = refl
length-staging_of (n ∷ []) = refl
length-staging_of (n ∷ k ∷ p) = ap suc (length-staging_of (k ∷ p))

pub has_staging-append : (p q : Path) → has_staging (p ++ q) ≡ (has_staging p || has_staging q)
has_staging-append = list_any-append is_staging

pub has_staging-staging_of : (p : Path) → p ≢ [] → has_staging (staging_of p) ≡ true
has_staging-staging_of [] other = absurd (other refl)
has_staging-staging_of (n ∷ []) other = refl
has_staging-staging_of (n ∷ k ∷ p) other = let below : has_staging (staging_of (k ∷ p)) ≡ true = has_staging-staging_of (k ∷ p) (λ e. absurd (let no_root : k ∷ p ≡ [] = e in cc)) in rw below (or-true (is_staging n))

-- what extends a path with a staging name has one too
pub has_staging-extends : (p q : Path) → is_prefix p q ≡ true → has_staging p ≡ true → has_staging q ≡ true
has_staging-extends p q e h = let u = prefix_parts p q e in rw (u.1, has_staging-append, h)

-- ---- different paths

pub same_path-no : (p q : Path) → p ≢ q → same_path p q ≡ false
same_path-no p q other = by_test (same_path p q) refl
  where
    by_test : (t : Bool) → same_path p q ≡ t → same_path p q ≡ false
    by_test true e = absurd (other ((same_path-decides p q).0 e))
    by_test false e = e

-- a path that does not begin with another is not this other
pub not_prefix_not_same : (p q : Path) → is_prefix p q ≡ false → same_path p q ≡ false
not_prefix_not_same p q h = same_path-no p q (λ e. true_not_false (is_prefix p q) (ap (is_prefix p) (sym e) ∙ is_prefix-refl p) h)

pub tied-same : (q p : Path) → eq_by_cmp path_cmp q p ≡ same_path p q
tied-same q p =
    same_tests (eq_by_cmp path_cmp q p) (same_path p q)
    (λ e. (same_path-decides p q).1 (sym (path_cmp-exact q p (equal_of (path_cmp q p) e))))
    (λ e. ap (λ v. is_eq (path_cmp q v)) ((same_path-decides p q).0 e) ∙ ap is_eq (path_cmp-refl q))

pub tied-equal : (p q : Path) → eq_by_cmp path_cmp p q ≡ true → p ≡ q
tied-equal p q e = path_cmp-exact p q (equal_of (path_cmp p q) e)

-- a parent comes before its children
pub parent_of-less : (p : Path) → p ≢ [] → path_cmp (parent_of p) p ≡ Less
parent_of-less p other = by_order (path_cmp (parent_of p) p) refl
  where
    by_order : (r : Ordering) → path_cmp (parent_of p) p ≡ r → path_cmp (parent_of p) p ≡ Less
    by_order Less e = e
    by_order Equal e = absurd (parent_of-differs p other (path_cmp-exact (parent_of p) p e))
    by_order Greater e = absurd (prefix_not_greater (parent_of p) p (parent_of-is_prefix p) e)

pub is_prefix-take : (k : ℕ) (path : Path) → is_prefix (take k path) path ≡ true
is_prefix-take k path = subst (λ (p : Path). is_prefix (take k path) p ≡ true) (take-append-drop k path) (is_prefix-append (take k path) (drop k path))

pub is_prefix-nil : (path : Path) → path ≢ [] → is_prefix path [] ≡ false
is_prefix-nil [] h = absurd (h refl)
is_prefix-nil (n ∷ path) h = refl

pub has_some_names : (path : Path) → path ≢ [] → 1 ≤ length path
has_some_names [] h = absurd (h refl)
has_some_names (n ∷ path) h = omega arith

pub has_staging-take : (k : ℕ) (path : Path) → has_staging path ≡ false → has_staging (take k path) ≡ false
has_staging-take k path plain = first_false (has_staging (take k path)) (has_staging (drop k path)) (sym (has_staging-append (take k path) (drop k path)) ∙ ap has_staging (take-append-drop k path) ∙ plain)
