-- Items with keys that are put in order of the keys, one after another.
use Rattle.std.specs.Prelude.{◌≡◌, Bool, true, false, ◌&&◌, cond, List, [], ◌∷◌, ◌++◌, filter, fold, ◌⊎◌}
use Rattle.std.proofs.Common.{refl, sym, ap, subst, ◌∙◌, inl, inr, append_assoc, append-nil}
use Rattle.std.proofs.lemmas.List.Sums.{fold-append}
use Rattle.std.proofs.lemmas.List.Elements.{filter-append, filter_agree}
use Rattle.std.proofs.Math.Bool.{and_self, and_comm}
use Rattle.pv_walk.proofs.Settling.{IsChained}

module _ {X K : Type 0} (key : X → K) (before : K → K → Bool) (trans : (a b c : K) → before a b ≡ true → before b c ≡ true → before a c ≡ true) (asym : (a b : K) → before a b ≡ true → before b a ≡ false)
    (same_key : (a b : K) → before a b ≡ false → before b a ≡ false → a ≡ b) where
  -- ---- the order

  before-self : (a : K) → before a a ≡ false
  before-self a = by (before a a) refl
    where
      by : (t : Bool) → before a a ≡ t → before a a ≡ false
      by true e = asym a a e
      by false e = e

  -- two are the same, or one of them stands before the other
  key_cases : (a b : K) → (a ≡ b) ⊎ ((before a b ≡ true) ⊎ (before b a ≡ true))
  key_cases a b = by (before a b) (before b a) refl refl
    where
      by : (s t : Bool) → before a b ≡ s → before b a ≡ t → (a ≡ b) ⊎ ((before a b ≡ true) ⊎ (before b a ≡ true))
      by true t p q = inr (inl p)
      by false true p q = inr (inr q)
      by false false p q = inl (same_key a b p q)

  -- ---- filters

  filter-filter : (p q : X → Bool) (xs : List X) → filter p (filter q xs) ≡ filter (λ x. q x && p x) xs
  filter-filter p q [] = refl
  filter-filter p q (x ∷ xs) = by (q x) (p x) refl (filter-filter p q xs)
    where
      by : (s t : Bool) → p x ≡ t → filter p (filter q xs) ≡ filter (λ x. q x && p x) xs → filter p (cond s (x ∷ filter q xs) (filter q xs)) ≡ cond (s && p x) (x ∷ filter (λ x. q x && p x) xs) (filter (λ x. q x && p x) xs)
      by false t e h = h
      by true true e h = rw e (ap (λ (l : List X). x ∷ l) h)
      by true false e h = rw e h

  filter-none : (p : X → Bool) (xs : List X) → ((x : X) → p x ≡ false) → filter p xs ≡ []
  filter-none p [] none = refl
  filter-none p (x ∷ xs) none = rw (none x) (filter-none p xs none)

  -- those that pass one test pass another
  filter-within : (p q : X → Bool) (xs : List X) → ((x : X) → (q x && p x) ≡ p x) → filter p (filter q xs) ≡ filter p xs
  filter-within p q xs within = filter-filter p q xs ∙ filter_agree (λ x. q x && p x) p within xs

  -- no more do
  filter-apart : (p q : X → Bool) (xs : List X) → ((x : X) → (q x && p x) ≡ false) → filter p (filter q xs) ≡ []
  filter-apart p q xs apart = filter-filter p q xs ∙ filter-none (λ x. q x && p x) xs apart

  -- ---- two entries

  -- what stands before one, and what stands after it
  abbrev under : K → X → Bool
  under w x = before (key x) w

  abbrev over : K → X → Bool
  over w x = before w (key x)

  -- an entry at the place of one
  abbrev placed : K → X → List X → List X
  placed w y xs = filter (under w) xs ++ y ∷ filter (over w) xs

  filter-placed : (p : X → Bool) (w : K) (y : X) (xs : List X) → filter p (placed w y xs) ≡ filter p (filter (under w) xs) ++ cond (p y) (y ∷ filter p (filter (over w) xs)) (filter p (filter (over w) xs))
  filter-placed p w y xs = filter-append p (filter (under w) xs) (y ∷ filter (over w) xs)

  -- of two entries for one place the later counts
  placed-placed : (w : K) (y z : X) (xs : List X) → key y ≡ w → placed w z (placed w y xs) ≡ placed w z xs
  placed-placed w y z xs same = ap (λ (l : List X). l ++ z ∷ filter (over w) (placed w y xs)) lower ∙ ap (λ (l : List X). filter (under w) xs ++ z ∷ l) upper
    where
      self : before (key y) w ≡ false
      self = rw same (before-self w)

      self' : before w (key y) ≡ false
      self' = rw same (before-self w)

      apart : (b c : Bool) → (b ≡ true → c ≡ false) → (b && c) ≡ false
      apart true c e = e refl
      apart false c e = refl

      lower : filter (under w) (placed w y xs) ≡ filter (under w) xs
      lower =
          filter-placed (under w) w y xs ∙ rw (self, filter-within (under w) (under w) xs (λ x. and_self (under w x)), filter-apart (under w) (over w) xs (λ x. apart (over w x) (under w x) (asym w (key x))))
          (append-nil (filter (under w) xs))

      upper : filter (over w) (placed w y xs) ≡ filter (over w) xs
      upper =
          filter-placed (over w) w y xs ∙ rw (self', filter-apart (over w) (under w) xs (λ x. apart (under w x) (over w x) (asym (key x) w)))
          (filter-within (over w) (over w) xs (λ x. and_self (over w x)))

  -- those that pass a test pass a wider one
  filter-inner : (p q : X → Bool) (xs : List X) → ((x : X) → (q x && p x) ≡ q x) → filter p (filter q xs) ≡ filter q xs
  filter-inner p q xs inner = filter-filter p q xs ∙ filter_agree (λ x. q x && p x) q inner xs

  filter-swap : (p q : X → Bool) (xs : List X) → filter p (filter q xs) ≡ filter q (filter p xs)
  filter-swap p q xs = filter-filter p q xs ∙ filter_agree (λ x. q x && p x) (λ x. p x && q x) (λ x. and_comm (q x) (p x)) xs ∙ sym (filter-filter q p xs)

  -- two tests of which the first implies the second, or its opposite
  both-first : (b c : Bool) → (b ≡ true → c ≡ true) → (b && c) ≡ b
  both-first true c e = e refl
  both-first false c e = refl

  both-second : (b c : Bool) → (c ≡ true → b ≡ true) → (b && c) ≡ c
  both-second b true e = rw (e refl) refl
  both-second true false e = refl
  both-second false false e = refl

  both-none : (b c : Bool) → (b ≡ true → c ≡ false) → (b && c) ≡ false
  both-none true c e = e refl
  both-none false c e = refl

  -- entries for two places, put in either order
  placed-swap : (v w : K) (y z : X) (xs : List X) → (key y) ≡ v → (key z) ≡ w → before v w ≡ true → placed w z (placed v y xs) ≡ placed v y (placed w z xs)
  placed-swap v w y z xs ey ez h =
      ap (λ (l : List X). l ++ z ∷ filter (over w) (placed v y xs)) lower-first ∙ ap (λ (l : List X). (filter (under v) xs ++ y ∷ filter (under w) (filter (over v) xs)) ++ z ∷ l) upper-first
      ∙ append_assoc (filter (under v) xs) (y ∷ filter (under w) (filter (over v) xs)) (z ∷ filter (over w) xs)
      ∙ ap (λ (l : List X). filter (under v) xs ++ y ∷ (l ++ z ∷ filter (over w) xs)) (filter-swap (under w) (over v) xs)
      ∙ sym (ap (λ (l : List X). l ++ y ∷ filter (over v) (placed w z xs)) lower-second ∙ ap (λ (l : List X). filter (under v) xs ++ y ∷ l) upper-second)
    where
      back : before w v ≡ false
      back = asym v w h

      lower-first : filter (under w) (placed v y xs) ≡ filter (under v) xs ++ y ∷ filter (under w) (filter (over v) xs)
      lower-first =
          let here : before (key y) w ≡ true = rw ey h in
          filter-placed (under w) v y xs ∙ rw (here, filter-inner (under w) (under v) xs (λ x. both-first (under v x) (under w x) (λ e. trans (key x) v w e h))) refl

      upper-first : filter (over w) (placed v y xs) ≡ filter (over w) xs
      upper-first =
          let here : before w (key y) ≡ false = rw ey back in
          filter-placed (over w) v y xs
          ∙ rw (here, filter-apart (over w) (under v) xs (λ x. both-none (under v x) (over w x) (λ e. asym (key x) w (trans (key x) v w e h))))
          (filter-within (over w) (over v) xs (λ x. both-second (over v x) (over w x) (λ e. trans v w (key x) h e)))

      lower-second : filter (under v) (placed w z xs) ≡ filter (under v) xs
      lower-second =
          let here : before (key z) v ≡ false = rw ez back in
          filter-placed (under v) w z xs
          ∙ rw (here, filter-within (under v) (under w) xs (λ x. both-second (under w x) (under v x) (λ e. trans (key x) v w e h)), filter-apart (under v) (over w) xs (λ x. both-none (over w x) (under v x) (λ e. asym v (key x) (trans v w (key x) h e))))
          (append-nil (filter (under v) xs))

      upper-second : filter (over v) (placed w z xs) ≡ filter (over v) (filter (under w) xs) ++ z ∷ filter (over w) xs
      upper-second =
          let here : before v (key z) ≡ true = rw ez h in
          filter-placed (over v) w z xs ∙ rw (here, filter-inner (over v) (over w) xs (λ x. both-first (over w x) (over v x) (λ e. trans v w (key x) h e))) refl

  -- ---- items put one after another

  -- an item put among others, at the place of its key
  abbrev pub put : X → List X → List X
  put y xs = placed (key y) y xs

  put-same : (y z : X) (xs : List X) → (key y) ≡ (key z) → put z (put y xs) ≡ put z xs
  put-same y z xs same = subst (λ w. placed (key z) z (placed w y xs) ≡ placed (key z) z xs) (sym same) (placed-placed (key z) y z xs same)

  put-other : (y z : X) (xs : List X) → (before (key y) (key z) ≡ true) ⊎ (before (key z) (key y) ≡ true) → put z (put y xs) ≡ put y (put z xs)
  put-other y z xs (inl h) = placed-swap (key y) (key z) y z xs refl refl h
  put-other y z xs (inr h) = sym (placed-swap (key z) (key y) z y xs refl refl h)

  abbrev pub put_all : List X → List X → List X
  put_all xs ys = fold (λ xs y. put y xs) xs ys

  -- an entry before others is put over by one of them, or can be put after them as well
  put-cross : (y : X) (ys : List X) → ((xs : List X) → put_all (put y xs) ys ≡ put_all xs ys) ⊎ ((xs : List X) → put y (put_all xs ys) ≡ put_all (put y xs) ys)
  put-cross y [] = inr (λ xs. refl)
  put-cross y (z ∷ ys) = by (key_cases (key y) (key z)) (put-cross y ys)
    where
      by : ((key y) ≡ (key z)) ⊎ ((before (key y) (key z) ≡ true) ⊎ (before (key z) (key y) ≡ true))
          → ((xs : List X) → put_all (put y xs) ys ≡ put_all xs ys) ⊎ ((xs : List X) → put y (put_all xs ys) ≡ put_all (put y xs) ys)
          → ((xs : List X) → put_all (put y xs) (z ∷ ys) ≡ put_all xs (z ∷ ys)) ⊎ ((xs : List X) → put y (put_all xs (z ∷ ys)) ≡ put_all (put y xs) (z ∷ ys))
      by (inl same) rest = inl (λ xs. ap (λ (l : List X). put_all l ys) (put-same y z xs same))
      by (inr other) (inl p) = inl (λ xs. ap (λ (l : List X). put_all l ys) (put-other y z xs other) ∙ p (put z xs))
      by (inr other) (inr p) = inr (λ xs. p (put z xs) ∙ sym (ap (λ (l : List X). put_all l ys) (put-other y z xs other)))

  -- to put them all again changes nothing
  put_all-twice : (ys xs : List X) → put_all (put_all xs ys) ys ≡ put_all xs ys
  put_all-twice [] xs = refl
  put_all-twice (y ∷ ys) xs = by (put-cross y ys) (put_all-twice ys (put y xs))
    where
      by : ((xs : List X) → put_all (put y xs) ys ≡ put_all xs ys) ⊎ ((xs : List X) → put y (put_all xs ys) ≡ put_all (put y xs) ys)
          → put_all (put_all (put y xs) ys) ys ≡ put_all (put y xs) ys
          → put_all (put y (put_all (put y xs) ys)) ys ≡ put_all (put y xs) ys
      by (inl p) again = p (put_all (put y xs) ys) ∙ again
      by (inr p) again = ap (λ (l : List X). put_all l ys) (p (put y xs) ∙ ap (λ (l : List X). put_all l ys) (put-same y y xs refl)) ∙ again

  -- ---- changes

  module _ {A : Type 0} (items : A → List X) where
    -- a change gives the items one value, or puts some over them
    abbrev pub Puts : (A → A) → Type 0
    Puts f = ((ys : List X) × ((a : A) → items (f a) ≡ put_all (items a) ys)) ⊎ ((a b : A) → items (f a) ≡ items (f b))

    pub puts_then : (f g : A → A) → Puts f → Puts g → Puts (λ a. g (f a))
    puts_then f g (inl p) (inl q) = inl (p.0 ++ q.0, λ a. q.1 (f a) ∙ ap (λ (l : List X). put_all l q.0) (p.1 a) ∙ sym (fold-append (λ (xs : List X) (y : X). put y xs) (items a) p.0 q.0))
    puts_then f g (inr p) (inl q) = inr (λ a b. q.1 (f a) ∙ ap (λ (l : List X). put_all l q.0) (p a b) ∙ sym (q.1 (f b)))
    puts_then f g (inl p) (inr q) = inr (λ a b. q (f a) (f b))
    puts_then f g (inr p) (inr q) = inr (λ a b. q (f a) (f b))

    pub puts_twice : (f : A → A) → Puts f → (a : A) → items (f (f a)) ≡ items (f a)
    puts_twice f (inl p) a = p.1 (f a) ∙ ap (λ (l : List X). put_all l p.0) (p.1 a) ∙ put_all-twice p.0 (items a) ∙ sym (p.1 a)
    puts_twice f (inr p) a = p (f a) a

    pub puts-chained : IsChained Puts
    puts-chained = record { none = inl ([], λ a. refl); both = puts_then }
