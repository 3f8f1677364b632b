-- What is said of one part after another, when a call ends early.
use Rattle.std.specs.Prelude.{◌≡◌, ℕ, ◌+◌, List, [], ◌∷◌, ◌++◌, length, slice_get, take}
use Rattle.std.specs.Option.{option_to_list}
use Rattle.std.proofs.Common.{refl, sym, ap, ◌∙◌, zero, suc, add-one, append_assoc}
use Rattle.std.proofs.Math.Seq.{take-length}
use Rattle.pv_text.specs.GivenMessages.{MessagesPart}

-- a prefix of a list is one of a longer list
pub front_of : (a b : List (List ℕ)) (n : ℕ) → (m : ℕ) × (take n a ≡ take m (a ++ b))
front_of [] b zero = (0, refl)
front_of [] b (suc n) = (0, refl)
front_of (x ∷ a) b zero = (0, refl)
front_of (x ∷ a) b (suc n) = let below = front_of a b n in (suc below.0, ap (λ (r : List (List ℕ)). x ∷ r) below.1)

-- so is all of it and a prefix of the rest
pub back_of : (a b : List (List ℕ)) (n : ℕ) → (m : ℕ) × (a ++ take n b ≡ take m (a ++ b))
back_of [] b n = (n, refl)
back_of (x ∷ a) b n = let below = back_of a b n in (suc below.0, ap (λ (r : List (List ℕ)). x ∷ r) below.1)

-- a part of what is to be said first is a part of all
pub messages_first : (a b old new : List (List ℕ)) → MessagesPart a old new → MessagesPart (a ++ b) old new
messages_first a b old new part = let front = front_of a b part.0 in (front.0, part.1 ∙ ap (λ (r : List (List ℕ)). old ++ r) front.1)

-- so is all of it and a part of the rest
pub messages_then : (a b old mid new : List (List ℕ)) → mid ≡ old ++ a → MessagesPart b mid new → MessagesPart (a ++ b) old new
messages_then a b old mid new all part =
    let back = back_of a b part.0 in (
      back.0,
      part.1 ∙ ap (λ (r : List (List ℕ)). r ++ take part.0 b) all ∙ append_assoc old a (take part.0 b) ∙ ap (λ (r : List (List ℕ)). old ++ r) back.1,
    )

-- all of what is to be said is a part of it
pub messages_whole : (a old new : List (List ℕ)) → new ≡ old ++ a → MessagesPart a old new
messages_whole a old new all = (length a, all ∙ ap (λ (r : List (List ℕ)). old ++ r) (sym (take-length a)))

-- one more of the messages of a list
pub one_more : (new_messages : List (List ℕ)) (i : ℕ) → take (i + 1) new_messages ≡ take i new_messages ++ option_to_list (slice_get new_messages i)
one_more new_messages i = rw add-one (by_place new_messages i)
  where
    by_place : (ms : List (List ℕ)) (n : ℕ) → take (suc n) ms ≡ take n ms ++ option_to_list (slice_get ms n)
    by_place [] zero = refl
    by_place [] (suc n) = refl
    by_place (m ∷ ms) zero = refl
    by_place (m ∷ ms) (suc n) = ap (λ (xs : List (List ℕ)). m ∷ xs) (by_place ms n)
