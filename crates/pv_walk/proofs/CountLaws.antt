-- How often paths stand in lists of paths: in the keys of a tree, among the children of a path, and what that says of lengths.
use Rattle.std.specs.Prelude.{◌≡◌, ℕ, ◌+◌, ◌≤◌, Bool, true, false, cond, ◌&&◌, ◌||◌, T, List, [], ◌∷◌, ◌++◌, map, length, filter, filter_map, Option, Some, None, is_some}
use Rattle.std.proofs.Common.{refl, sym, ap, subst, ◌∙◌, arith, inl, inr, ◌⊎◌, length-append}
use Rattle.std.proofs.lemmas.Bool.{cases_Bool}
use Rattle.std.specs.List.{list_any, cons_option}
use Rattle.std.specs.Ordering.{eq_by_cmp, is_lt}
use Rattle.std.specs.declared.cmp.Ordering.TheVariants.{Equal}
use Rattle.std.specs.FinMap as fin
use Rattle.std.specs.FinMap.Entries.{below_all, is_sorted}
use Rattle.pv_path.specs.Paths.{Path, is_prefix, path_cmp, same_path, same_path-decides}
use Rattle.pv_path.proofs.PathLaws.{same_path-refl, path_cmp-refl, tied-same}
use Rattle.pv_steps.proofs.NameLaws.{child_name-Some, child_name-push}
use Rattle.pv_steps.specs.declared.object.Object.{Object}
use Rattle.pv_steps.specs.Trees.{Files, places, child_name}
use Rattle.pv_walk.specs.Edits.{count_at}
use Rattle.pv_walk.specs.Listing.{times, is_child, children_of}

pub times-append : (q : Path) (xs ys : List Path) → times q (xs ++ ys) ≡ times q xs + times q ys
times-append q [] ys = omega arith
times-append q (x ∷ xs) ys = let rest = times-append q xs ys in omega arith

pub times-push : (q : Path) (xs : List Path) (x : Path) → times q (xs ++ x ∷ []) ≡ times q xs + cond (same_path x q) 1 0
times-push q xs x = omega (arith, times-append q xs (x ∷ []))

pub times-self : (x : Path) (xs : List Path) → times x (x ∷ xs) ≡ 1 + times x xs
times-self x xs = ap (λ b. cond b 1 0 + times x xs) (same_path-refl x)

pub one-same : (p q : Path) → same_path p q ≡ true → p ≡ q
one-same p q e = (same_path-decides p q).0 e

-- two paths are the same, or the test of equality fails
pub same_or_not : (p q : Path) → ((p ≡ q) × (same_path p q ≡ true)) ⊎ (same_path p q ≡ false)
same_or_not p q = elim (same_path p q) as (λ b. same_path p q ≡ b → ((p ≡ q) × (b ≡ true)) ⊎ (b ≡ false)) [ true ↦ λ e. inl (one-same p q e, refl) | false ↦ λ e. inr refl ] refl

-- what a test keeps of a list
pub times-filter : (f : Path → Bool) (q : Path) (xs : List Path) → times q (filter f xs) ≡ cond (f q) (times q xs) 0
times-filter f q [] = elim (f q) as (λ b. ◌≡◌ {A = ℕ} 0 (cond b 0 0)) [ true ↦ refl | false ↦ refl ]
times-filter f q (x ∷ xs) = by (times-filter f q xs) (same_or_not x q)
  where
    by : times q (filter f xs) ≡ cond (f q) (times q xs) 0 → ((x ≡ q) × (same_path x q ≡ true)) ⊎ (same_path x q ≡ false) → times q (cond (f x) (x ∷ filter f xs) (filter f xs)) ≡ cond (f q) (cond (same_path x q) 1 0 + times q xs) 0
    by rest (inl s) =
        ap (λ y. times q (cond (f y) (x ∷ filter f xs) (filter f xs))) s.0
        ∙ elim (f q) as (λ b. times q (filter f xs) ≡ cond b (times q xs) 0 → times q (cond b (x ∷ filter f xs) (filter f xs)) ≡ cond b (cond (same_path x q) 1 0 + times q xs) 0) [
          | true ↦ λ h. ap (λ n. cond (same_path x q) 1 0 + n) h
          | false ↦ λ h. h
        ] rest
    by rest (inr d) =
        elim (f x) as (λ b. times q (cond b (x ∷ filter f xs) (filter f xs)) ≡ times q (filter f xs)) [ true ↦ ap (λ s. cond s 1 0 + times q (filter f xs)) d ∙ omega arith | false ↦ refl ]
        ∙ rest
        ∙ ap (λ n. cond (f q) n 0) (sym (ap (λ s. cond s 1 0 + times q xs) d ∙ omega arith))

-- ---- lengths

pub taken_out : (x : Path) (ys : List Path) → 1 ≤ times x ys → (front : List Path) × (back : List Path) × (ys ≡ front ++ x ∷ back)
taken_out x [] h = absurd (omega arith)
taken_out x (y ∷ ys) h =
    elim (same_path y x) as (λ s. same_path y x ≡ s → 1 ≤ cond s 1 0 + times x ys → (front : List Path) × (back : List Path) × (y ∷ ys ≡ front ++ x ∷ back)) [
      | true ↦ λ e g. ([], ys, ap (λ z. z ∷ ys) (one-same y x e))
      | false ↦ λ e g. let there = taken_out x ys (omega arith) in (y ∷ there.0, there.1, ap (λ zs. y ∷ zs) there.2)
    ] refl h

-- a list whose paths stand at least as often in another is no longer than that
pub length-times : (xs ys : List Path) → ((q : Path) → times q xs ≤ times q ys) → length xs ≤ length ys
length-times [] ys h = omega arith
length-times (x ∷ xs) ys h =
    let found = taken_out x ys (omega (arith, h x, times-self x xs)) in
    let rest = length-times xs (found.0 ++ found.1) (λ q. omega (arith, h q, ap (times q) found.2, times-append q found.0 (x ∷ found.1), times-append q found.0 found.1)) in
    omega (arith, rest, ap length found.2, length-append found.0 (x ∷ found.1), length-append found.0 found.1)

-- ---- the paths of a tree

both_T : (a b : Bool) → T (a && b) → (a ≡ true) × T b
both_T true b h = (refl, h)
both_T false b h = absurd h

less_apart : (x y : Path) → is_lt (path_cmp x y) ≡ true → same_path y x ≡ false
less_apart x y h =
    elim (same_path y x) as (λ s. same_path y x ≡ s → s ≡ false) [
      | true ↦ λ e. absurd (let tie : is_lt Equal ≡ true = subst (λ v. is_lt v ≡ true) (ap (path_cmp x) (one-same y x e) ∙ path_cmp-refl x) h in let no : false ≡ true = tie in cc)
      | false ↦ λ e. refl
    ] refl

none_below : (x : Path) (es : List (Path × Object)) → T (below_all path_cmp x es) → times x (map (λ e. e.0) es) ≡ 0
none_below x [] h = refl
none_below x (e ∷ es) h =
    let parts = both_T (is_lt (path_cmp x e.0)) (below_all path_cmp x es) h in
    ap (λ s. cond s 1 0 + times x (map (λ e. e.0) es)) (less_apart x e.0 parts.0) ∙ omega (arith, none_below x es parts.1)

times_sorted : (q : Path) (es : List (Path × Object)) → T (is_sorted path_cmp es) → times q (map (λ e. e.0) es) ≡ cond (list_any (eq_by_cmp path_cmp q) (map (λ e. e.0) es)) 1 0
times_sorted q [] h = refl
times_sorted q (e ∷ es) h =
    let parts = both_sorted (below_all path_cmp e.0 es) (is_sorted path_cmp es) h in
    by (times_sorted q es parts.1) parts (same_or_not e.0 q) ∙ ap (λ b. cond (b || list_any (eq_by_cmp path_cmp q) (map (λ e. e.0) es)) 1 0) (sym (tied-same q e.0))
  where
    both_sorted : (a b : Bool) → T (a && b) → T a × T b
    both_sorted true b h = (tt, h)
    both_sorted false b h = absurd h

    by : times q (map (λ e. e.0) es) ≡ cond (list_any (eq_by_cmp path_cmp q) (map (λ e. e.0) es)) 1 0 → T (below_all path_cmp e.0 es) × T (is_sorted path_cmp es) → ((e.0 ≡ q) × (same_path e.0 q ≡ true)) ⊎ (same_path e.0 q ≡ false)
        → cond (same_path e.0 q) 1 0 + times q (map (λ e. e.0) es) ≡ cond (same_path e.0 q || list_any (eq_by_cmp path_cmp q) (map (λ e. e.0) es)) 1 0
    by rest parts (inl s) =
        let none : times q (map (λ e. e.0) es) ≡ 0 = ap (λ x. times x (map (λ e. e.0) es)) (sym s.0) ∙ none_below e.0 es parts.0 in
        ap (λ b. cond b 1 0 + times q (map (λ e. e.0) es)) s.1 ∙ omega (arith, none) ∙ ap (λ b. cond (b || list_any (eq_by_cmp path_cmp q) (map (λ e. e.0) es)) 1 0) (sym s.1)
    by rest parts (inr d) =
        ap (λ b. cond b 1 0 + times q (map (λ e. e.0) es)) d ∙ omega arith ∙ rest ∙ ap (λ b. cond (b || list_any (eq_by_cmp path_cmp q) (map (λ e. e.0) es)) 1 0) (sym d)

-- a path stands once among the paths of a tree if it is present, and else not at all
pub times-keys : (files : Files) (q : Path) → times q (fin.keys files) ≡ cond (is_some (places files q)) 1 0
times-keys files q = times_sorted q (fin.entries files) (fin.entries_sorted files) ∙ ap (λ b. cond b 1 0) (sym (fin.contains_key-keys files q))

-- ---- children

-- a child is the path and a name
pub child_parts : (path q : Path) → is_child path q ≡ true → (n : List ℕ) × (q ≡ path ++ n ∷ [])
child_parts path q =
    elim (child_name path q) as (λ o. child_name path q ≡ o → is_some o ≡ true → (n : List ℕ) × (q ≡ path ++ n ∷ [])) [
      | None ↦ λ is e. absurd (let no : false ≡ true = e in cc)
      | Some n ↦ λ is e. (n, child_name-Some path q n is)
    ] refl

pub is_child-push : (path : Path) (n : List ℕ) → is_child path (path ++ n ∷ []) ≡ true
is_child-push path n = ap is_some (child_name-push path n)

times_children : (path q : Path) (ks : List Path) → times q (map (λ n. path ++ n ∷ []) (filter_map (child_name path) ks)) ≡ cond (is_child path q) (times q ks) 0
times_children path q [] = elim (is_child path q) as (λ b. ◌≡◌ {A = ℕ} 0 (cond b 0 0)) [ true ↦ refl | false ↦ refl ]
times_children path q (k ∷ ks) = by (times_children path q ks) (child_name path k) refl
  where
    -- what adds k adds it on both sides
    more : same_path k q ≡ true → is_child path q ≡ true → cond (same_path k q) 1 0 + cond (is_child path q) (times q ks) 0 ≡ cond (is_child path q) (cond (same_path k q) 1 0 + times q ks) 0
    more s e = elim (is_child path q) as (λ b. b ≡ true → cond (same_path k q) 1 0 + cond b (times q ks) 0 ≡ cond b (cond (same_path k q) 1 0 + times q ks) 0) [ true ↦ λ h. refl | false ↦ λ h. absurd (let no : false ≡ true = h in cc) ] e

    fewer : same_path k q ≡ false → cond (is_child path q) (times q ks) 0 ≡ cond (is_child path q) (cond (same_path k q) 1 0 + times q ks) 0
    fewer d = ap (λ n. cond (is_child path q) n 0) (sym (ap (λ b. cond b 1 0 + times q ks) d ∙ omega arith))

    by : times q (map (λ n. path ++ n ∷ []) (filter_map (child_name path) ks)) ≡ cond (is_child path q) (times q ks) 0 → (o : Option (List ℕ)) → child_name path k ≡ o → times q (map (λ n. path ++ n ∷ []) (cons_option o (filter_map (child_name path) ks))) ≡ cond (is_child path q) (cond (same_path k q) 1 0 + times q ks) 0
    by rest None is = rest ∙ cases (same_or_not k q)
      where
        cases : ((k ≡ q) × (same_path k q ≡ true)) ⊎ (same_path k q ≡ false) → cond (is_child path q) (times q ks) 0 ≡ cond (is_child path q) (cond (same_path k q) 1 0 + times q ks) 0
        cases (inl s) =
            let no : is_child path q ≡ false = ap (is_child path) (sym s.0) ∙ ap is_some is in
            ap (λ b. cond b (times q ks) 0) no ∙ ap (λ b. cond b (cond (same_path k q) 1 0 + times q ks) 0) (sym no)
        cases (inr d) = fewer d
    by rest (Some n) is =
        let here : path ++ n ∷ [] ≡ k = sym (child_name-Some path k n is) in
        ap (λ p. cond (same_path p q) 1 0 + times q (map (λ n. path ++ n ∷ []) (filter_map (child_name path) ks))) here
        ∙ ap (λ m. cond (same_path k q) 1 0 + m) rest
        ∙ cases (same_or_not k q)
      where
        cases : ((k ≡ q) × (same_path k q ≡ true)) ⊎ (same_path k q ≡ false) → cond (same_path k q) 1 0 + cond (is_child path q) (times q ks) 0 ≡ cond (is_child path q) (cond (same_path k q) 1 0 + times q ks) 0
        cases (inl s) = more s.1 (ap (is_child path) (sym s.0) ∙ ap is_some is)
        cases (inr d) = ap (λ b. cond b 1 0 + cond (is_child path q) (times q ks) 0) d ∙ omega arith ∙ fewer d

-- a path stands once among the children of a path if it is a present child, and else not at all
pub times-children : (files : Files) (path q : Path) → times q (children_of files path) ≡ cond (is_child path q && is_some (places files q)) 1 0
times-children files path q =
    times_children path q (fin.keys files)
    ∙ ap (λ n. cond (is_child path q) n 0) (times-keys files q)
    ∙ elim (is_child path q) as (λ b. ◌≡◌ {A = ℕ} (cond b (cond (is_some (places files q)) 1 0) 0) (cond (b && is_some (places files q)) 1 0)) [ true ↦ refl | false ↦ refl ]

-- of what is at and below a path as it stood there are no more objects
pub count_same : (path : Path) (t u : Files) → ((q : Path) → is_prefix path q ≡ true → is_some (places u q) ≡ is_some (places t q)) → count_at u path ≤ count_at t path
count_same path t u present = length-times (filter (is_prefix path) (fin.keys u)) (filter (is_prefix path) (fin.keys t))
    (λ q. omega (arith, times-filter (is_prefix path) q (fin.keys u), times-filter (is_prefix path) q (fin.keys t), same q (cases_Bool (is_prefix path q))))
  where
    same : (q : Path) → (is_prefix path q ≡ true) ⊎ (is_prefix path q ≡ false) → cond (is_prefix path q) (times q (fin.keys u)) 0 ≤ cond (is_prefix path q) (times q (fin.keys t)) 0
    same q (inl e) =
        let count : times q (fin.keys u) ≡ times q (fin.keys t) = times-keys u q ∙ ap (λ b. cond b 1 0) (present q e) ∙ sym (times-keys t q) in
        omega (arith, ap (λ b. cond b (times q (fin.keys u)) 0) e, ap (λ b. cond b (times q (fin.keys t)) 0) e, count)
    same q (inr e) = omega (arith, ap (λ b. cond b (times q (fin.keys u)) 0) e)
