-- Masked modes in a row.
use Rattle.std.specs.Prelude.{◌≡◌, ℕ, bit_and, bit_or, ◌⊎◌, min, max}
use Rattle.std.proofs.Common.{refl, sym, ap, ◌∙◌, inl, inr, arith}
use Rattle.std.specs.Int.{bit_at}
use Rattle.std.proofs.lemmas.Nat.{and_assoc}
use Rattle.std.proofs.lemmas.Nat.Bits.{bit_at_and, bit_at_or, same_from_bits}
use Rattle.pv_walk.proofs.Settling.{Settled, settled_then, settled_twice, IsChained}

-- ---- bits

and_or : (a b c : ℕ) → bit_and (bit_or a b) c ≡ bit_or (bit_and a c) (bit_and b c)
and_or a b c = same_from_bits _ _ (λ i.
    bit_at_and (bit_or a b) c i ∙ ap (λ n. min n (bit_at c i)) (bit_at_or a b i)
    ∙ spread (bit_at a i) (bit_at b i) (bit_at c i)
    ∙ sym (bit_at_or (bit_and a c) (bit_and b c) i ∙ ap (λ n. max n (bit_at (bit_and b c) i)) (bit_at_and a c i) ∙ ap (λ n. max (min (bit_at a i) (bit_at c i)) n) (bit_at_and b c i)))
  where
    spread : (x y z : ℕ) → min (max x y) z ≡ max (min x z) (min y z)
    spread x y z = omega arith

-- each of three numbers has no bits beside those of the three
bits_of : (a b c i : ℕ) → bit_at (bit_or a (bit_or b c)) i ≡ max (bit_at a i) (max (bit_at b i) (bit_at c i))
bits_of a b c i = bit_at_or a (bit_or b c) i ∙ ap (λ n. max (bit_at a i) n) (bit_at_or b c i)

and_all : (n a b c : ℕ) → ((i : ℕ) → min (bit_at n i) (max (bit_at a i) (max (bit_at b i) (bit_at c i))) ≡ bit_at n i) → bit_and n (bit_or a (bit_or b c)) ≡ n
and_all n a b c each = same_from_bits _ _ (λ i. bit_at_and n (bit_or a (bit_or b c)) i ∙ ap (λ m. min (bit_at n i) m) (bits_of a b c i) ∙ each i)

-- ---- three base entries

-- the base entries of the owner, the owning group and all others
pub record Base : Type 0 where
  pub owner : ℕ
  pub group : ℕ
  pub other : ℕ

abbrev pub all_of : Base → ℕ
all_of b = bit_or b.owner (bit_or b.group b.other)

-- of these base entries what others grant
abbrev pub cut : Base → Base → Base
cut new old = record { owner = bit_and new.owner (all_of old); group = bit_and new.group (all_of old); other = bit_and new.other (all_of old) }

same_base : (a b : Base) → a.owner ≡ b.owner → a.group ≡ b.group → a.other ≡ b.other → a ≡ b
same_base a b p q r = λ i. record { owner = p i; group = q i; other = r i }

all_of-cut : (a b : Base) → all_of (cut a b) ≡ bit_and (all_of a) (all_of b)
all_of-cut a b =
    ap (λ n. bit_or (bit_and a.owner (all_of b)) n) (sym (and_or a.group a.other (all_of b)))
    ∙ sym (and_or a.owner (bit_or a.group a.other) (all_of b))

-- one cut after another is a cut
cut-cut : (a b c : Base) → cut a (cut b c) ≡ cut (cut a b) c
cut-cut a b c = same_base (cut a (cut b c)) (cut (cut a b) c) (by a.owner) (by a.group) (by a.other)
  where
    by : (n : ℕ) → bit_and n (all_of (cut b c)) ≡ bit_and (bit_and n (all_of b)) (all_of c)
    by n = ap (λ m. bit_and n m) (all_of-cut b c) ∙ sym (and_assoc (all_of c) n (all_of b))

-- what is cut by itself stays
pub cut-self : (a : Base) → cut a a ≡ a
cut-self a = same_base (cut a a) a
    (and_all a.owner a.owner a.group a.other (λ i. first (bit_at a.owner i) (bit_at a.group i) (bit_at a.other i)))
    (and_all a.group a.owner a.group a.other (λ i. second (bit_at a.owner i) (bit_at a.group i) (bit_at a.other i)))
    (and_all a.other a.owner a.group a.other (λ i. third (bit_at a.owner i) (bit_at a.group i) (bit_at a.other i)))
  where
    first : (x y z : ℕ) → min x (max x (max y z)) ≡ x
    first x y z = omega arith

    second : (x y z : ℕ) → min y (max x (max y z)) ≡ y
    second x y z = omega arith

    third : (x y z : ℕ) → min z (max x (max y z)) ≡ z
    third x y z = omega arith

-- ---- changes

module _ {A : Type 0} (base : A → Base) where
  -- a change leaves the base entries, gives them one value, or cuts some by them
  abbrev pub Cuts : (A → A) → Type 0
  Cuts f = Settled base f ⊎ ((new : Base) × ((a : A) → base (f a) ≡ cut new (base a)))

  pub cuts_then : (f g : A → A) → Cuts f → Cuts g → Cuts (λ a. g (f a))
  cuts_then f g (inl p) (inl q) = inl (settled_then base f g p q)
  cuts_then f g (inl (inl p)) (inr q) = inr (q.0, λ a. q.1 (f a) ∙ ap (cut q.0) (p a))
  cuts_then f g (inl (inr p)) (inr q) = inl (inr (λ a b. q.1 (f a) ∙ ap (cut q.0) (p a b) ∙ sym (q.1 (f b))))
  cuts_then f g (inr p) (inl (inl q)) = inr (p.0, λ a. q (f a) ∙ p.1 a)
  cuts_then f g (inr p) (inl (inr q)) = inl (inr (λ a b. q (f a) (f b)))
  cuts_then f g (inr p) (inr q) = inr (cut q.0 p.0, λ a. q.1 (f a) ∙ ap (cut q.0) (p.1 a) ∙ cut-cut q.0 p.0 (base a))

  pub cuts_twice : (f : A → A) → Cuts f → (a : A) → base (f (f a)) ≡ base (f a)
  cuts_twice f (inl p) a = settled_twice base f p a
  cuts_twice f (inr p) a =
      p.1 (f a) ∙ ap (cut p.0) (p.1 a) ∙ cut-cut p.0 p.0 (base a) ∙ ap (λ n. cut n (base a)) (cut-self p.0) ∙ sym (p.1 a)

  pub cuts-chained : IsChained Cuts
  cuts-chained = record { none = inl (inl (λ a. refl)); both = cuts_then }
