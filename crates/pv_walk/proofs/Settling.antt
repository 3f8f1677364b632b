-- Changes that leave an attribute as it is or give it one value, and what holds of such changes in a row.
use Rattle.std.specs.Prelude.{◌≡◌, Bool, false, List, [], ◌∷◌, fold, ◌⊎◌}
use Rattle.std.specs.List.{list_any}
use Rattle.std.proofs.Common.{refl, sym, ◌∙◌, inl, inr}
use Rattle.std.proofs.lemmas.Bool.{or_parts}

-- ---- one attribute

module _ {A B : Type 0} (attribute : A → B) where
  -- a change leaves the attribute as it is, or gives it one value
  abbrev pub Settled : (A → A) → Type 0
  Settled f = ((a : A) → attribute (f a) ≡ attribute a) ⊎ ((a b : A) → attribute (f a) ≡ attribute (f b))

  pub settled_then : (f g : A → A) → Settled f → Settled g → Settled (λ a. g (f a))
  settled_then f g (inl p) (inl q) = inl (λ a. q (f a) ∙ p a)
  settled_then f g (inr p) (inl q) = inr (λ a b. q (f a) ∙ p a b ∙ sym (q (f b)))
  settled_then f g (inl p) (inr q) = inr (λ a b. q (f a) (f b))
  settled_then f g (inr p) (inr q) = inr (λ a b. q (f a) (f b))

  -- to do it twice is to do it once
  pub settled_twice : (f : A → A) → Settled f → (a : A) → attribute (f (f a)) ≡ attribute (f a)
  settled_twice f (inl p) a = p (f a)
  settled_twice f (inr q) a = q (f a) a

-- ---- changes in a row

-- a property that the change of nothing has, and with two changes their succession
pub record IsChained {A : Type 0} (P : (A → A) → Type 0) : Type 0 where
  pub none : P (λ a. a)
  pub both : (f g : A → A) → P f → P g → P (λ a. g (f a))

pub settled-chained : {A B : Type 0} (attribute : A → B) → IsChained (Settled attribute)
settled-chained attribute = record { none = inl (λ a. refl); both = settled_then attribute }

-- it holds of a list of changes if it holds of each that passes no test
pub chained_all : {A X : Type 0} (P : (A → A) → Type 0) → IsChained P → (change : X → A → A) (bad : X → Bool)
    → ((x : X) → bad x ≡ false → P (change x)) → (xs : List X) → list_any bad xs ≡ false → P (λ a. fold (λ a x. change x a) a xs)
chained_all P chained change bad each [] e = chained.none
chained_all P chained change bad each (x ∷ xs) e =
    let parts = or_parts (bad x) (list_any bad xs) e in
    chained.both (change x) (λ a. fold (λ a x. change x a) a xs) (each x parts.0) (chained_all P chained change bad each xs parts.1)
