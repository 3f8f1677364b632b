-- The pieces of a text between the places of a byte.
use Rattle.std.proofs.Common.{◌≡◌, ℕ, ◌+◌, ◌-◌, ◌<◌, ◌≤◌, suc, Bool, true, false, not, ◌==◌, List, [], ◌∷◌, length, take, drop, refl, arith, cond}
use Rattle.std.specs.List.{prefix_len, slice_split, onto_first}
use Rattle.std.proofs.lemmas.List.{take_rest}
use Rattle.std.proofs.lemmas.List.Splits.{slice_split_first}

-- the pieces are never none
pub split_cons : (c : ℕ) (xs : List ℕ) → (y : List ℕ) × ((ys : List (List ℕ)) × (slice_split (λ b. b == c) xs ≡ y ∷ ys))
split_cons c [] = ([], ([], refl))
split_cons c (x ∷ xs) = by_test (x == c) (split_cons c xs)
  where
    by_test : (b : Bool) → ((y : List ℕ) × ((ys : List (List ℕ)) × (slice_split (λ b. b == c) xs ≡ y ∷ ys)))
        → (y : List ℕ) × ((ys : List (List ℕ)) × (cond b ([] ∷ slice_split (λ b. b == c) xs) (onto_first x (slice_split (λ b. b == c) xs)) ≡ y ∷ ys))
    by_test true rest = ([], (slice_split (λ b. b == c) xs, refl))
    by_test false (y, (ys, e)) = (x ∷ y, (ys, rw e refl))

-- a text without the byte is one piece
pub split_whole : (c : ℕ) (xs : List ℕ) → length xs ≤ prefix_len (λ b. not (b == c)) xs → slice_split (λ b. b == c) xs ≡ xs ∷ []
split_whole c [] h = refl
split_whole c (x ∷ xs) h = by_test (split_whole c xs) (x == c) refl
  where
    by_test : (length xs ≤ prefix_len (λ b. not (b == c)) xs → slice_split (λ b. b == c) xs ≡ xs ∷ []) → (b : Bool) → (x == c) ≡ b → slice_split (λ b. b == c) (x ∷ xs) ≡ (x ∷ xs) ∷ []
    by_test rest true e = absurd (let bad : suc (length xs) ≤ 0 = rw e at h in omega arith)
    by_test rest false e =
        let longer : suc (length xs) ≤ 1 + prefix_len (λ b. not (b == c)) xs = rw e at h in
        rw (e, rest (omega arith)) refl

-- a text is cut at its first place of the byte
pub split_cut : (c : ℕ) (xs : List ℕ) (at : ℕ) → at ≡ prefix_len (λ b. not (b == c)) xs → at < length xs
    → slice_split (λ b. b == c) xs ≡ take at xs ∷ slice_split (λ b. b == c) (take (length xs - (at + 1)) (drop (at + 1) xs))
split_cut c xs at e h =
    let first : prefix_len (λ b. not (b == c)) xs < length xs = rw (← e) h in
    rw (take_rest {X = ℕ} xs (at + 1), e) (slice_split_first (λ b. b == c) xs 0 first)
