-- Filters of lists, and what all elements of a filter pass.
use Rattle.std.proofs.Common.{◌≡◌, Bool, true, false, List, [], ◌∷◌, refl, filter, if◌then◌else◌}
use Rattle.std.specs.List.{list_all}
use Rattle.std.proofs.lemmas.Bool.{and_parts}

pub filter_whole : {X : Type 0} (p : X → Bool) → (xs : List X) → list_all p xs ≡ true → filter p xs ≡ xs
filter_whole p [] h = refl
filter_whole p (x ∷ xs) h =
    let parts = and_parts (p x) (list_all p xs) h in
    rw (parts.0, filter_whole p xs parts.1)

-- a test of each element of a filter, as it was before, at one more element
kept_all : {X : Type 0} (q : X → Bool) (x : X) (ys : List X) → q x ≡ true → list_all q ys ≡ true → (b : Bool) → list_all q (if b then x ∷ ys else ys) ≡ true
kept_all q x ys here rest true = rw here rest
kept_all q x ys here rest false = rest

pub list_all-filter : {X : Type 0} (p q : X → Bool) → (xs : List X) → list_all q xs ≡ true → list_all q (filter p xs) ≡ true
list_all-filter p q [] h = refl
list_all-filter p q (x ∷ xs) h =
    let parts = and_parts (q x) (list_all q xs) h in
    kept_all q x (filter p xs) parts.0 (list_all-filter p q xs parts.1) (p x)

-- what passes a filter passes its test
pub list_all-filtered : {X : Type 0} (p : X → Bool) → (xs : List X) → list_all p (filter p xs) ≡ true
list_all-filtered p [] = refl
list_all-filtered p (x ∷ xs) = by_test (list_all-filtered p xs) (p x) refl
  where
    by_test : list_all p (filter p xs) ≡ true → (b : Bool) → p x ≡ b → list_all p (if b then x ∷ filter p xs else filter p xs) ≡ true
    by_test rest true e = rw e rest
    by_test rest false e = rest
