-- What is in a list that was filtered, or made list by list.
use Rattle.std.proofs.Common.{◌≡◌, zero, suc, ◌⊎◌, inl, inr, Bool, true, false, List, [], ◌∷◌, ◌++◌, map, Contains, cond, refl, sym, ap, ◌∙◌, subst, arith}
use Rattle.std.specs.Prelude.{filter}
use Rattle.std.specs.List.{flat_map}
use Rattle.std.proofs.lemmas.List.Elements.{Contains-append_cases, Contains-append_left, Contains-append_right}

module _ {X : Type 0} where
  pub first_in : (x : X) (xs : List X) → Contains (x ∷ xs) x
  first_in x xs = (zero, omega arith, refl)

  pub later_in : (x : X) (xs : List X) (y : X) → Contains xs y → Contains (x ∷ xs) y
  later_in x xs y c = let l = c.1 in (suc c.0, omega (arith, l), c.2)

  pub in_cases : (x : X) (xs : List X) (y : X) → Contains (x ∷ xs) y → (x ≡ y) ⊎ Contains xs y
  in_cases x xs y (zero, l, e) = inl e
  in_cases x xs y (suc k, l, e) = inr (k, omega (arith, l), e)

  pub in_none : (y : X) → Contains [] y → ⊥
  in_none y c = let l = c.1 in omega (arith, l)

  pub in_one : (x y : X) → Contains (x ∷ []) y → x ≡ y
  in_one x y c = elim (in_cases x [] y c) [ inl e ↦ e | inr none ↦ absurd (in_none y none) ]

  -- ---- filters

  module _ (test : X → Bool) where
    pub filter_in : (xs : List X) (y : X) → Contains xs y → test y ≡ true → Contains (filter test xs) y
    filter_in [] y c e = absurd (in_none y c)
    filter_in (x ∷ xs) y c e = by (test x) refl (in_cases x xs y c) (λ d. filter_in xs y d e)
      where
        by : (t : Bool) → test x ≡ t → (x ≡ y) ⊎ Contains xs y → (Contains xs y → Contains (filter test xs) y) → Contains (cond t (x ∷ filter test xs) (filter test xs)) y
        by true f (inl same) on = subst (λ (z : X). Contains (x ∷ filter test xs) z) same (first_in x (filter test xs))
        by true f (inr more) on = later_in x (filter test xs) y (on more)
        by false f (inl same) on = absurd (let differ : ◌≡◌ {A = Bool} false true = sym f ∙ ap test same ∙ e in cc)
        by false f (inr more) on = on more

    pub in_filter : (xs : List X) (y : X) → Contains (filter test xs) y → Contains xs y × (test y ≡ true)
    in_filter [] y c = absurd (in_none y c)
    in_filter (x ∷ xs) y c = by (test x) refl c (in_filter xs y)
      where
        later : Contains xs y × (test y ≡ true) → Contains (x ∷ xs) y × (test y ≡ true)
        later found = (later_in x xs y found.0, found.1)

        by : (t : Bool) → test x ≡ t → Contains (cond t (x ∷ filter test xs) (filter test xs)) y → (Contains (filter test xs) y → Contains xs y × (test y ≡ true)) → Contains (x ∷ xs) y × (test y ≡ true)
        by true f d on = elim (in_cases x (filter test xs) y d) [
          | inl same ↦ (subst (λ (z : X). Contains (x ∷ xs) z) same (first_in x xs), sym (ap test same) ∙ f)
          | inr more ↦ later (on more)
        ]
        by false f d on = later (on d)

-- ---- lists made one by one

module _ {X Y : Type 0} (make : X → Y) where
  pub map_in : (xs : List X) (x : X) → Contains xs x → Contains (map make xs) (make x)
  map_in [] x c = absurd (in_none x c)
  map_in (z ∷ xs) x c = by (in_cases z xs x c) (map_in xs x)
    where
      by : (z ≡ x) ⊎ Contains xs x → (Contains xs x → Contains (map make xs) (make x)) → Contains (make z ∷ map make xs) (make x)
      by (inl same) on = subst (λ (w : X). Contains (make z ∷ map make xs) (make w)) same (first_in (make z) (map make xs))
      by (inr more) on = later_in (make z) (map make xs) (make x) (on more)

  pub in_map : (xs : List X) (y : Y) → Contains (map make xs) y → (x : X) × Contains xs x × (make x ≡ y)
  in_map [] y c = absurd (in_none y c)
  in_map (z ∷ xs) y c = by (in_cases (make z) (map make xs) y c) (in_map xs y)
    where
      by : (make z ≡ y) ⊎ Contains (map make xs) y → (Contains (map make xs) y → (x : X) × Contains xs x × (make x ≡ y)) → (x : X) × Contains (z ∷ xs) x × (make x ≡ y)
      by (inl same) on = (z, first_in z xs, same)
      by (inr more) on = let found = on more in (found.0, later_in z xs found.0 found.1, found.2)

-- ---- lists made list by list

module _ {X Y : Type 0} (make : X → List Y) where
  pub flat_in : (xs : List X) (x : X) (y : Y) → Contains xs x → Contains (make x) y → Contains (flat_map make xs) y
  flat_in [] x y c d = absurd (in_none x c)
  flat_in (z ∷ xs) x y c d = by (in_cases z xs x c) (λ e. flat_in xs x y e d)
    where
      by : (z ≡ x) ⊎ Contains xs x → (Contains xs x → Contains (flat_map make xs) y) → Contains (make z ++ flat_map make xs) y
      by (inl same) on = Contains-append_left (make z) (flat_map make xs) y (subst (λ (w : X). Contains (make w) y) (sym same) d)
      by (inr more) on = Contains-append_right (make z) (flat_map make xs) y (on more)

  pub in_flat : (xs : List X) (y : Y) → Contains (flat_map make xs) y → (x : X) × Contains xs x × Contains (make x) y
  in_flat [] y c = absurd (in_none y c)
  in_flat (z ∷ xs) y c = by (Contains-append_cases (make z) (flat_map make xs) y c) (in_flat xs y)
    where
      by : Contains (make z) y ⊎ Contains (flat_map make xs) y → (Contains (flat_map make xs) y → (x : X) × Contains xs x × Contains (make x) y) → (x : X) × Contains (z ∷ xs) x × Contains (make x) y
      by (inl own) on = (z, first_in z xs, own)
      by (inr more) on = let found = on more in (found.0, later_in z xs found.0 found.1, found.2)
