-- Laws of a set of paths that is held as a list from the last path in byte order to the first.
use Rattle.std.specs.Prelude.{◌≡◌, ℕ, ◌-◌, ◌≤◌, ◌<◌, Bool, true, false, ◌||◌, List, [], ◌∷◌, ◌++◌, length, reverse, Option, Some, None, IfSome, Result, Ok, Err, is_ok, slice_get, option_map}
use Rattle.std.proofs.Common.{Bor, refl, sym, ap, subst, ◌∙◌, inl, inr, arith, get_or, zero, suc, length-append}
use Rattle.std.proofs.Math.Bool.{or-false, or-true}
use Rattle.std.proofs.lemmas.List.{reverse-append, length-reverse}
use Rattle.std.proofs.lemmas.List.Folds.{list_any-append}
use Rattle.std.specs.List.{AllByRecursion}
use Rattle.std.specs.List.Sorted.{IsStrictlySortedBy, IsNonDecreasingBy, IsBinarySearchResult}
use Rattle.std.specs.Ordering.{ordering_index, ordering_reverse}
use Rattle.std.specs.declared.cmp.Ordering.{Ordering}
use Rattle.std.specs.declared.cmp.Ordering.TheVariants.{Less, Equal, Greater}
use Rattle.pv_path.specs.Paths.{Path, path_cmp, path_total, same_path, same_path-decides}
use Rattle.pv_path.proofs.PathLaws.{path_cmp-refl, path_cmp-exact}
use Rattle.pv_walk.specs.Removal.{is_one_of}
use Rattle.pv_walk.proofs.OrderLaws.{reverse-cons, sorted-push}
use Rattle.pv_walk.proofs.RemovalLaws.{zero_or_more}
use Rattle.pv_walk.proofs.TakingLaws.{one_of-some}
use Rattle.pv_walk.proofs.WholeLaws.{place_in}

-- ---- members

or_turned : (a b : Bool) → (a || b) ≡ (b || a)
or_turned true true = refl
or_turned true false = refl
or_turned false true = refl
or_turned false false = refl

-- a list in reverse has the same members
pub one_of-reverse : (xs : List Path) (q : Path) → is_one_of (reverse xs) q ≡ is_one_of xs q
one_of-reverse [] q = refl
one_of-reverse (x ∷ xs) q =
    ap (λ (ys : List Path). is_one_of ys q) (reverse-cons x xs) ∙ list_any-append (λ p. same_path p q) (reverse xs) (x ∷ [])
    ∙ ap (λ b. b || (same_path x q || false)) (one_of-reverse xs q)
    ∙ ap (λ b. is_one_of xs q || b) (or-false (same_path x q)) ∙ or_turned (is_one_of xs q) (same_path x q)

first_passes : (P : Path → Type 0) (x : Path) (xs : List Path) → ((q : Path) → is_one_of (x ∷ xs) q ≡ true → P q) → P x
first_passes P x xs each = each x (ap (λ b. b || is_one_of xs x) ((same_path-decides x x).1 refl))

-- what holds of each member holds of the whole list
pub members_all : (P : Path → Type 0) (xs : List Path) → ((q : Path) → is_one_of xs q ≡ true → P q) → AllByRecursion P xs
members_all P [] each = tt
members_all P (x ∷ xs) each = (first_passes P x xs each, members_all P xs (λ q h. each q (ap (λ b. same_path x q || b) h ∙ or-true (same_path x q))))

-- ---- one path more

pub none_falls : IsStrictlySortedBy (λ (x y : Path). path_cmp y x) []
unfolding IsStrictlySortedBy
none_falls = tt

-- a path that comes before all others in byte order is added at the end of the list
pub added_order : (xs new : List Path) (p : Path) → IsStrictlySortedBy (λ x y. path_cmp y x) xs → ((q : Path) → is_one_of (reverse xs) q ≡ true → path_cmp p q ≡ Less) → new ≡ xs ++ p ∷ []
    → IsStrictlySortedBy (λ x y. path_cmp y x) new
added_order xs new p falls first is =
    subst (IsStrictlySortedBy (λ x y. path_cmp y x)) (sym is)
    (sorted-push (λ x y. path_cmp y x) xs p falls (members_all (λ q. path_cmp p q ≡ Less) xs (λ q h. first q (one_of-reverse xs q ∙ h))))

pub added_reversed : (xs new : List Path) (p : Path) → new ≡ xs ++ p ∷ [] → reverse new ≡ p ∷ reverse xs
added_reversed xs new p is = ap reverse is ∙ reverse-append xs (p ∷ [])

-- ---- the first path

at_place : (xs : List Path) (i : ℕ) (p : Path) → slice_get xs i ≡ Some p → is_one_of xs p ≡ true
at_place [] i p e = cc
at_place (x ∷ xs) zero p e = let same : x ≡ p = cc in ap (λ b. b || is_one_of xs p) ((same_path-decides x p).1 same)
at_place (x ∷ xs) (suc i) p e = ap (λ b. same_path x p || b) (at_place xs i p e) ∙ or-true (same_path x p)

pub last_member : (xs : List Path) (i : ℕ) (o : Option (Bor Path)) → option_map (λ s. s.now) o ≡ slice_get xs i → IfSome o (λ p. is_one_of (reverse xs) p.now ≡ true)
last_member xs i None e = tt
last_member xs i (Some s) e = one_of-reverse xs s.now ∙ at_place xs i s.now (sym e)

-- the first of a list in reverse is its last
pub first_of_reverse : (xs : List Path) → slice_get (reverse xs) 0 ≡ slice_get xs (length xs - 1)
first_of_reverse [] = refl
first_of_reverse (x ∷ []) = refl
first_of_reverse (x ∷ y ∷ xs) =
    let one : length (x ∷ y ∷ xs) - 1 ≡ suc (length xs) = omega arith in
    let other : length (y ∷ xs) - 1 ≡ length xs = omega arith in
    ap (λ (ps : List Path). slice_get ps 0) (reverse-cons x (y ∷ xs)) ∙ front (reverse (y ∷ xs)) (length-reverse (y ∷ xs)) ∙ first_of_reverse (y ∷ xs)
    ∙ ap (slice_get (y ∷ xs)) other ∙ sym (ap (slice_get (x ∷ y ∷ xs)) one)
  where
    front : (ys : List Path) → length ys ≡ suc (length xs) → slice_get (ys ++ x ∷ []) 0 ≡ slice_get ys 0
    front [] e = absurd (omega (arith, e))
    front (z ∷ ys) e = refl

-- ---- a search

-- in a list from the last path to the first, a comparison with an earlier member gives no more than with a later one
falls_less : (x y z : Path) → path_cmp z y ≡ Less → ordering_index (path_cmp x y) ≤ ordering_index (path_cmp x z)
falls_less x y z less = by (path_cmp x y) refl
  where
    by : (o : Ordering) → path_cmp x y ≡ o → ordering_index o ≤ ordering_index (path_cmp x z)
    by Less e = omega arith
    by Equal e =
        let greater : path_cmp x z ≡ Greater = ap (λ (p : Path). path_cmp p z) (path_cmp-exact x y e) ∙ path_total.antisymm y z ∙ ap ordering_reverse less in
        subst (λ o. 1 ≤ ordering_index o) (sym greater) (omega arith)
    by Greater e =
        let under : path_cmp y x ≡ Less = path_total.antisymm y x ∙ ap ordering_reverse e in
        let greater : path_cmp x z ≡ Greater = path_total.antisymm x z ∙ ap ordering_reverse (path_total.trans z y x less under) in
        subst (λ o. 2 ≤ ordering_index o) (sym greater) (omega arith)

one_at : (P : Path → Type 0) (xs : List Path) → AllByRecursion P xs → (j : ℕ) (d : Path) → j < length xs → P (get_or xs j d)
one_at P [] all j d within = absurd (omega (arith, within))
one_at P (x ∷ xs) all zero d within = all.0
one_at P (x ∷ xs) all (suc j) d within = one_at P xs all.1 j d (omega (arith, within))

searching : (x : Path) (xs : List Path) → IsStrictlySortedBy (λ p q. path_cmp q p) xs → (i j : ℕ) (d : Path) → i ≤ j → j < length xs
    → ordering_index (path_cmp x (get_or xs i d)) ≤ ordering_index (path_cmp x (get_or xs j d))
unfolding IsStrictlySortedBy
searching x [] falls i j d le within = absurd (omega (arith, within))
searching x (y ∷ ys) falls zero zero d le within = omega arith
searching x (y ∷ ys) falls zero (suc j) d le within = falls_less x y (get_or ys j d) (one_at (λ z. path_cmp z y ≡ Less) ys falls.0 j d (omega (arith, within)))
searching x (y ∷ ys) falls (suc i) zero d le within = absurd (omega (arith, le))
searching x (y ∷ ys) falls (suc i) (suc j) d le within = searching x ys falls.1 i j d (omega (arith, le)) (omega (arith, within))

searchable : (x : Path) (xs : List Path) → IsStrictlySortedBy (λ p q. path_cmp q p) xs → IsNonDecreasingBy (λ y. ordering_index (path_cmp x y)) xs
searchable x xs falls = λ i j d le within. searching x xs falls i j d le within

place_has : (x : Path) (xs : List Path) (i : ℕ) → ((d : Path) → get_or xs i d ≡ x) → is_one_of xs x ≡ true
place_has x [] i at = absurd (let lengths = ap length (sym (at (x ++ [] ∷ []))) in omega (arith, lengths, length-append x ([] ∷ [])))
place_has x (y ∷ ys) zero at = ap (λ b. b || is_one_of ys x) ((same_path-decides y x).1 (at y))
place_has x (y ∷ ys) (suc i) at = ap (λ b. same_path y x || b) (place_has x ys i at) ∙ or-true (same_path y x)

-- a binary search finds a path exactly if it is in the list
pub found : (x : Path) (xs : List Path) (r : Result ℕ ℕ) → IsStrictlySortedBy (λ p q. path_cmp q p) xs → IsBinarySearchResult (λ y. path_cmp x y) xs r → is_ok r ≡ is_one_of xs x
found x xs (Ok i) falls h = sym (place_has x xs i (λ d. sym (path_cmp-exact x (get_or xs i d) (h d))))
found x xs (Err i) falls h = by (is_one_of xs x) refl
  where
    by : (b : Bool) → is_one_of xs x ≡ b → false ≡ b
    by false e = refl
    by true e =
        let parted = h (searchable x xs falls) in
        let place = place_in x xs (one_of-some xs x e) in
        let equal : path_cmp x (get_or xs place.0 x) ≡ Equal = ap (path_cmp x) (place.2 x) ∙ path_cmp-refl x in
        absurd (elim (zero_or_more (i - place.0)) [
          | inl past ↦ let no : Greater ≡ Equal = sym (parted.1 place.0 x (omega (arith, past)) place.1) ∙ equal in cc
          | inr front ↦ let no : Less ≡ Equal = sym (parted.0 place.0 x (omega arith) (omega (arith, front))) ∙ equal in cc
        ])
