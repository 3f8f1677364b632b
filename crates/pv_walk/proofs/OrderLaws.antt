-- Laws of paths in order: from the last on, and by depth after they stood in byte order.
use Rattle.std.specs.Prelude.{◌≡◌, ℕ, ◌≤◌, ◌<◌, Bool, true, false, cond, not, ◌&&◌, List, [], ◌∷◌, ◌++◌, length, map, filter, reverse, IsTrue}
use Rattle.std.proofs.Common.{refl, sym, ap, subst, ◌∙◌, arith}
use Rattle.std.proofs.lemmas.List.{map-append, reverse-append}
use Rattle.std.proofs.lemmas.List.Kept.{IsStrictlySortedBy-filter}
use Rattle.std.proofs.lemmas.Map.Keys.{sorted_from_all_adjacent}
use Rattle.std.specs.List.{AllByRecursion, IsAllAdjacentAnswer}
use Rattle.std.specs.List.Sorted.{IsStrictlySortedBy, IsNonDecreasingBy, IsStableByKey, ties}
use Rattle.std.specs.Cmp.{nat_cmp_total, ranks}
use Rattle.std.specs.Ordering.{MatchOrdering, nat_cmp, is_lt, ordering_reverse, ordering_then}
use Rattle.std.specs.declared.cmp.Ordering.{Ordering}
use Rattle.std.specs.declared.cmp.Ordering.TheVariants.{Less, Equal, Greater}
use Rattle.pv_path.specs.Paths.{Path, path_cmp, path_total}
use Rattle.pv_path.proofs.Tests.{all_append}
use Rattle.pv_walk.specs.Listing.{times}
use Rattle.pv_walk.specs.Whole.{depth_cmp, AreDeepestFirst}
use Rattle.pv_walk.proofs.CountLaws.{times-push}
use Rattle.pv_walk.proofs.WholeLaws.{deepening, Deepening, length_behind}

-- ---- from the last on

-- the first of a list is the last of it from the last on
pub reverse-cons : {A : Type 0} (x : A) (xs : List A) → reverse (x ∷ xs) ≡ reverse xs ++ x ∷ []
reverse-cons x xs = reverse-append (x ∷ []) xs

all-reverse : {A : Type 0} (P : A → Type 0) (xs : List A) → AllByRecursion P xs → AllByRecursion P (reverse xs)
all-reverse P [] all = tt
all-reverse P (x ∷ xs) all = subst (AllByRecursion P) (sym (reverse-cons x xs)) (all_append P (reverse xs) (x ∷ []) (all-reverse P xs all.1) (all.0, tt))

-- what follows from each, and what holds of a part of a list
pub all_map : {A : Type 0} (P Q : A → Type 0) → ((x : A) → P x → Q x) → (xs : List A) → AllByRecursion P xs → AllByRecursion Q xs
all_map P Q f [] h = tt
all_map P Q f (x ∷ xs) h = (f x h.0, all_map P Q f xs h.1)

module _ {A : Type 0} (P : A → Type 0) where
  pub all_before : (xs ys : List A) → AllByRecursion P (xs ++ ys) → AllByRecursion P xs
  all_before [] ys h = tt
  all_before (x ∷ xs) ys h = (h.0, all_before xs ys h.1)

  pub all_behind : (xs ys : List A) → AllByRecursion P (xs ++ ys) → AllByRecursion P ys
  all_behind [] ys h = h
  all_behind (x ∷ xs) ys h = all_behind xs ys h.1

-- what is given for each of a list, from the last on
pub map_reverse : {A B : Type 0} (f : A → B) (xs : List A) → map f (reverse xs) ≡ reverse (map f xs)
map_reverse f [] = refl
map_reverse f (x ∷ xs) =
    ap (map f) (reverse-cons x xs) ∙ map-append f (reverse xs) (x ∷ []) ∙ ap (λ ys. ys ++ f x ∷ []) (map_reverse f xs) ∙ sym (reverse-cons (f x) (map f xs))

module _ {K : Type 0} (c : K → K → Ordering) where
  -- one more at the end
  pub sorted-push : (xs : List K) (x : K) → IsStrictlySortedBy c xs → AllByRecursion (λ y. c y x ≡ Less) xs → IsStrictlySortedBy c (xs ++ x ∷ [])
  unfolding IsStrictlySortedBy
  sorted-push [] x up all = (tt, tt)
  sorted-push (y ∷ xs) x up all = (all_append (λ z. c y z ≡ Less) xs (x ∷ []) up.0 (all.0, tt), sorted-push xs x up.1 all.1)

-- a list in reverse has each path as often
pub times-reverse : (q : Path) (xs : List Path) → times q (reverse xs) ≡ times q xs
times-reverse q [] = refl
times-reverse q (x ∷ xs) =
    let pushed = ap (times q) (reverse-cons x xs) ∙ times-push q (reverse xs) x in
    let rest = times-reverse q xs in
    omega (arith, pushed, rest)

-- in order the other way round
pub sorted-reverse : {K : Type 0} (c : K → K → Ordering) (xs : List K) → IsStrictlySortedBy c xs → IsStrictlySortedBy (λ x y. c y x) (reverse xs)
unfolding IsStrictlySortedBy
sorted-reverse c [] up = tt
sorted-reverse c (x ∷ xs) up =
    subst (IsStrictlySortedBy (λ y z. c z y)) (sym (reverse-cons x xs))
    (sorted-push (λ y z. c z y) (reverse xs) x (sorted-reverse c xs up.1) (all-reverse (λ y. c x y ≡ Less) xs up.0))

-- ---- by depth

-- two paths are of one depth
abbrev level : Path → Path → Bool
level = ties (λ x y. is_lt (nat_cmp (length x) (length y)))

-- those of one depth with a path stand in byte order, the last first
abbrev Levels : List Path → Type 0
Levels ps = (x : Path) → IsStrictlySortedBy (λ p q. path_cmp q p) (filter (level x) ps)

filter-first : (f : Path → Bool) (p : Path) (ps : List Path) → f p ≡ true → filter f (p ∷ ps) ≡ p ∷ filter f ps
filter-first f p ps e = ap (λ b. cond b (p ∷ filter f ps) (filter f ps)) e

filter-other : (f : Path → Bool) (p : Path) (ps : List Path) → f p ≡ false → filter f (p ∷ ps) ≡ filter f ps
filter-other f p ps e = ap (λ b. cond b (p ∷ filter f ps) (filter f ps)) e

turned : (m n : ℕ) → nat_cmp n m ≡ ordering_reverse (nat_cmp m n)
turned m n = nat_cmp_total.antisymm n m

-- neither is less
abbrev tie : Ordering → Bool
tie o = not (is_lt o) && not (is_lt (ordering_reverse o))

level-tie : (p q : Path) → level p q ≡ tie (nat_cmp (length p) (length q))
level-tie p q = ap (λ o. not (is_lt (nat_cmp (length p) (length q))) && not (is_lt o)) (turned (length p) (length q))

level-self : (p : Path) → level p p ≡ true
level-self p = level-tie p p ∙ by (nat_cmp (length p) (length p)) (turned (length p) (length p))
  where
    by : (o : Ordering) → o ≡ ordering_reverse o → tie o ≡ true
    by Less e = absurd (let no : Less ≡ Greater = e in cc)
    by Equal e = refl
    by Greater e = absurd (let no : Greater ≡ Less = e in cc)

-- the others of a list in levels
levels-rest : (p : Path) (ps : List Path) → Levels (p ∷ ps) → Levels ps
unfolding IsStrictlySortedBy
levels-rest p ps all x = by (level x p) refl
  where
    by : (b : Bool) → level x p ≡ b → IsStrictlySortedBy (λ q r. path_cmp r q) (filter (level x) ps)
    by true e = (subst (IsStrictlySortedBy (λ q r. path_cmp r q)) (filter-first (level x) p ps e) (all x)).1
    by false e = subst (IsStrictlySortedBy (λ q r. path_cmp r q)) (filter-other (level x) p ps e) (all x)

-- of those that stand behind a path and have as many names or more, each goes before it
behind : (p : Path) (ps : List Path) → AllByRecursion (λ q. length p ≤ length q) ps → AllByRecursion (λ q. path_cmp q p ≡ Less) (filter (level p) ps) → AllByRecursion (λ q. depth_cmp q p ≡ Less) ps
behind p [] deep less = tt
behind p (q ∷ ps) deep less = by (level p q) refl (behind p ps deep.1)
  where
    equal : (o : Ordering) → tie o ≡ true → o ≡ Equal
    equal Less h = absurd (let no : false ≡ true = h in cc)
    equal Equal h = refl
    equal Greater h = absurd (let no : false ≡ true = h in cc)

    more : (o : Ordering) → MatchOrdering o (length p < length q) (length p ≡ length q) (length q < length p) → length p ≤ length q → tie o ≡ false → o ≡ Less
    more Less rank le h = refl
    more Equal rank le h = absurd (let no : true ≡ false = h in cc)
    more Greater rank le h = absurd (omega (arith, rank, le))

    same : level p q ≡ true → path_cmp q p ≡ Less → depth_cmp q p ≡ Less
    same e l = ap (λ o. ordering_then o (path_cmp q p)) (equal (nat_cmp (length p) (length q)) (sym (level-tie p q) ∙ e)) ∙ l

    deeper : level p q ≡ false → depth_cmp q p ≡ Less
    deeper e = ap (λ o. ordering_then o (path_cmp q p)) (more (nat_cmp (length p) (length q)) (ranks (length p) (length q)) deep.0 (sym (level-tie p q) ∙ e))

    by : (b : Bool) → level p q ≡ b → (AllByRecursion (λ r. path_cmp r p ≡ Less) (filter (level p) ps) → AllByRecursion (λ r. depth_cmp r p ≡ Less) ps) → AllByRecursion (λ r. depth_cmp r p ≡ Less) (q ∷ ps)
    by true e rest = let parts = subst (AllByRecursion (λ r. path_cmp r p ≡ Less)) (filter-first (level p) q ps e) less in (same e parts.0, rest parts.1)
    by false e rest = (deeper e, rest (subst (AllByRecursion (λ r. path_cmp r p ≡ Less)) (filter-other (level p) q ps e) less))

by_depth : (ps : List Path) → Deepening ps → Levels ps → IsStrictlySortedBy (λ p q. depth_cmp q p) ps
unfolding IsStrictlySortedBy
by_depth [] deep all = tt
by_depth (p ∷ ps) deep all = (
  behind p ps (length_behind p ps deep.0) (subst (IsStrictlySortedBy (λ q r. path_cmp r q)) (filter-first (level p) p ps (level-self p)) (all p)).0,
  by_depth ps deep.1 (levels-rest p ps all),
)

-- a stable sort by depth of paths that stood in byte order, the last first
pub deepest_first : (keys xs ys : List Path) → IsStrictlySortedBy path_cmp keys → xs ≡ reverse keys → IsNonDecreasingBy (λ (p : Path). length p) ys → IsStableByKey (λ (p : Path). length p) nat_cmp xs ys
    → AreDeepestFirst (reverse ys)
deepest_first keys xs ys up is deep stable =
    sorted-reverse (λ p q. depth_cmp q p) ys (by_depth ys (deepening ys deep) (λ x.
    subst (IsStrictlySortedBy (λ p q. path_cmp q p)) (sym (stable x))
    (IsStrictlySortedBy-filter (λ p q. path_cmp q p) (level x) xs (subst (IsStrictlySortedBy (λ p q. path_cmp q p)) (sym is) (sorted-reverse path_cmp keys up)))))

-- ---- paths that rise

less : (o : Ordering) → true ≡ is_lt o → o ≡ Less
less Less _ = refl
less Equal h = cc
less Greater h = cc

-- what `is_sorted_by` answers of paths, asked whether each stands before the next one
pub rising : (ps : List Path) (r : Bool) → IsAllAdjacentAnswer (λ p q b. b ≡ is_lt (path_cmp p q)) ps r → IsTrue r → IsStrictlySortedBy path_cmp ps
rising ps true all _ = sorted_from_all_adjacent path_total ps [] (λ k short. less _ (all k [] short))
rising ps false all h = cc
