-- What holds of each element and each later one.
use Rattle.std.proofs.Common.{◌≡◌, ℕ, zero, suc, ◌<◌, List, [], ◌∷◌, ◌++◌, length, map, take, get_or, All, AllPairs, Contains, refl, arith}
use Rattle.std.proofs.lemmas.List.Elements.{All-append, All-map, All-take, Contains-get_or}
use Rattle.std.proofs.lemmas.List.Kept.{AllPairs-cons}

in_tail : {X : Type 0} (x : X) (xs : List X) (y : X) → Contains xs y → Contains (x ∷ xs) y
in_tail x xs y c = (suc c.0, (let l = c.1 in omega arith), c.2)

pub in_one : {X : Type 0} (x y : X) → Contains (x ∷ []) y → x ≡ y
in_one x y c = by c.0 c.1 c.2
  where
    by : (k : ℕ) → k < length (x ∷ []) → get_or (x ∷ []) k y ≡ y → x ≡ y
    by zero l e = e
    by (suc k) l e = absurd (omega arith)

module _ {X : Type 0} (R : X → X → Type 0) where
  pub AllPairs-none : AllPairs R []
  AllPairs-none = λ i j d l m. absurd (omega arith)

  head_pairs : (x : X) (xs : List X) → AllPairs R (x ∷ xs) → All (R x) xs
  head_pairs x xs h = λ k d l. h zero (suc k) d (omega arith) (omega arith)

  tail_pairs : (x : X) (xs : List X) → AllPairs R (x ∷ xs) → AllPairs R xs
  tail_pairs x xs h = λ i j d l m. h (suc i) (suc j) d (omega arith) (omega arith)

  pub AllPairs-one : (x : X) → AllPairs R (x ∷ [])
  AllPairs-one x = λ i j d l m. absurd (omega arith)

  pub AllPairs-take : (n : ℕ) (xs : List X) → AllPairs R xs → AllPairs R (take n xs)
  AllPairs-take zero xs h = AllPairs-none
  AllPairs-take (suc n) [] h = h
  AllPairs-take (suc n) (x ∷ xs) h = AllPairs-cons R x (take n xs) (All-take (R x) n xs (head_pairs x xs h)) (AllPairs-take n xs (tail_pairs x xs h))

  pub AllPairs-append : (xs ys : List X) → AllPairs R xs → AllPairs R ys → ((x y : X) → Contains xs x → Contains ys y → R x y) → AllPairs R (xs ++ ys)
  AllPairs-append [] ys p q across = q
  AllPairs-append (x ∷ xs) ys p q across = AllPairs-cons R x (xs ++ ys)
      (All-append (R x) xs ys (head_pairs x xs p) (λ k d l. across x (get_or ys k d) (0, omega arith, refl) (Contains-get_or ys k d l)))
      (AllPairs-append xs ys (tail_pairs x xs p) q (λ a b c e. across a b (in_tail x xs a c) e))

  pub AllPairs-map : {Y : Type 0} (S : Y → Y → Type 0) (f : Y → X) (ys : List Y) → ((a b : Y) → Contains ys a → Contains ys b → S a b → R (f a) (f b)) → AllPairs S ys → AllPairs R (map f ys)
  AllPairs-map S f [] on h = AllPairs-none
  AllPairs-map S f (y ∷ ys) on h = AllPairs-cons R (f y) (map f ys)
      (All-map (R (f y)) f ys (λ k d l. on y (get_or ys k d) (0, omega arith, refl) (in_tail y ys (get_or ys k d) (Contains-get_or ys k d l)) (h zero (suc k) d (omega arith) (omega arith))))
      (AllPairs-map S f ys (λ a b c e s. on a b (in_tail y ys a c) (in_tail y ys b e) s) (λ i j d l m. h (suc i) (suc j) d (omega arith) (omega arith)))
