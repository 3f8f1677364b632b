-- The place of the first item that passes a test.
use Rattle.std.proofs.Common.{◌≡◌, ◌∙◌, ap, refl, arith, suc, zero}
use Rattle.std.specs.Prelude.{ℕ, ◌+◌, ◌<◌, Bool, true, false, cond, ◌||◌, List, [], ◌∷◌, ◌++◌, length, map, filter, find, Option, Some, None, option_map, slice_get}
use Rattle.std.specs.List.{list_any, enumerate_from}
use Rattle.std.specs.Option.{option_or}
use Rattle.std.proofs.lemmas.Bool.{or_parts}
use Rattle.pv_table.specs.Building.{first_index}

-- ---- tests

pub option_or-none : (o : Option ℕ) → o ≡ option_or o None
option_or-none None = refl
option_or-none (Some n) = refl

-- ---- the first item that passes

pub first_index-none : {A : Type 0} (test : A → Bool) (xs : List A) → list_any test xs ≡ false → first_index test xs ≡ None
first_index-none test [] none = refl
first_index-none test (x ∷ xs) none = let u = or_parts (test x) (list_any test xs) none in rw (u.0, first_index-none test xs u.1) refl

-- where no item passes, none is found
pub missing : {A : Type 0} (test : A → Bool) (xs : List A) → first_index test xs ≡ None → (list_any test xs ≡ false) × (find test xs ≡ None)
missing test [] e = (refl, refl)
missing {A} test (x ∷ xs) e = elim (test x) as (λ b. cond b (Some 0) (option_map suc (first_index test xs)) ≡ None → (b || list_any test xs ≡ false) × (cond b (Some x) (find test xs) ≡ None))
    [ true ↦ λ h. cc | false ↦ λ h. missing test xs (none_below (first_index test xs) h) ] e
  where
    none_below : (o : Option ℕ) → option_map suc o ≡ None → o ≡ None
    none_below None h = refl
    none_below (Some i) h = cc

-- the first item that passes is found at its place
pub found : {A : Type 0} (test : A → Bool) (xs : List A) (i : ℕ) → first_index test xs ≡ Some i → (list_any test xs ≡ true) × ((find test xs ≡ slice_get xs i) × (i < length xs))
found test [] i e = cc
found {A} test (x ∷ xs) i e = elim (test x) as (λ b. cond b (Some 0) (option_map suc (first_index test xs)) ≡ Some i → (b || list_any test xs ≡ true) × ((cond b (Some x) (find test xs) ≡ slice_get (x ∷ xs) i) × (i < length (x ∷ xs))))
    [ true ↦ λ h. here i h | false ↦ λ h. there (λ k. found test xs k) i (first_index test xs) refl h ] e
  where
    here : (i : ℕ) → ◌≡◌ {A = Option ℕ} (Some 0) (Some i) → ◌≡◌ {A = Bool} true true × (◌≡◌ {A = Option A} (Some x) (slice_get (x ∷ xs) i) × (i < length (x ∷ xs)))
    here zero h = (refl, (refl, omega arith))
    here (suc j) h = cc

    inside : (k j : ℕ) → ◌≡◌ {A = Option ℕ} (Some (suc k)) (Some (suc j)) → ◌≡◌ {A = Option ℕ} (Some k) (Some j)
    inside k j h = cc

    there : ((k : ℕ) → first_index test xs ≡ Some k → (list_any test xs ≡ true) × ((find test xs ≡ slice_get xs k) × (k < length xs))) → (i : ℕ) (o : Option ℕ) → first_index test xs ≡ o → option_map suc o ≡ Some i
        → (list_any test xs ≡ true) × ((find test xs ≡ slice_get (x ∷ xs) i) × (i < length (x ∷ xs)))
    there below i None s h = cc
    there below zero (Some k) s h = cc
    there below (suc j) (Some k) s h = let p = below j (s ∙ inside k j h) in (p.0, (p.1.0, omega (arith, p.1.1)))

-- with one item more at the end
pub first_index-push : {A : Type 0} (test : A → Bool) (xs : List A) (x : A) → first_index test (xs ++ x ∷ []) ≡ option_or (first_index test xs) (cond (test x) (Some (length xs)) None)
first_index-push test [] x = refl
first_index-push test (y ∷ xs) x = elim (test y) as (λ b. cond b (Some 0) (option_map suc (first_index test (xs ++ x ∷ []))) ≡ option_or (cond b (Some 0) (option_map suc (first_index test xs))) (cond (test x) (Some (length (y ∷ xs))) None))
    [ true ↦ refl | false ↦ ap (option_map suc) (first_index-push test xs x) ∙ spread (first_index test xs) (test x) ]
  where
    spread : (o : Option ℕ) (b : Bool) → option_map suc (option_or o (cond b (Some (length xs)) None)) ≡ option_or (option_map suc o) (cond b (Some (suc (length xs))) None)
    spread None true = refl
    spread None false = refl
    spread (Some i) b = refl

-- ---- item by item

-- the places of the items from one on that pass a test
abbrev pub places_from : {A : Type 0} → (A → Bool) → ℕ → List A → List ℕ
places_from test n xs = map (λ x. x.0) (filter (λ x. test x.1) (enumerate_from n xs))
