-- The parts of a text one after another, and how far a bracket goes.
use Rattle.std.proofs.Common.{◌≡◌, ℕ, zero, suc, ◌+◌, ◌-◌, ◌<◌, ◌≤◌, Bool, true, false, ◌==◌, List, [], ◌∷◌, ◌++◌, length, drop, get_or, Option, Some, None, refl, sym, ap, ◌∙◌, arith, append_assoc}
use Rattle.std.specs.List.{list_any, flat_map}
use Rattle.std.specs.Option.{option_map}
use Rattle.std.proofs.lemmas.List.{append-nil, length-drop}
use Rattle.std.proofs.lemmas.Bool.Decides.{nat_tests}
use Rattle.pv_glob.specs.Elements.{places, length_to_end, token_length, body_length}

pub places-skip : (part_length : List ℕ → ℕ) (skip : ℕ) (text : List ℕ) → places part_length skip text ≡ places part_length 0 (drop skip text)
places-skip part_length zero text = refl
places-skip part_length (suc skip) [] = refl
places-skip part_length (suc skip) (b ∷ text) = places-skip part_length skip text

-- the first part, and the parts behind it
pub places_step : (part_length : List ℕ → ℕ) (text : List ℕ) → 0 < length text → 0 < part_length text → places part_length 0 text ≡ text ∷ places part_length 0 (drop (part_length text) text)
places_step part_length [] l n = absurd (omega arith)
places_step part_length (b ∷ text) l n = by_length (part_length (b ∷ text)) n
  where
    by_length : (k : ℕ) → 0 < k → (b ∷ text) ∷ places part_length (k - 1) text ≡ (b ∷ text) ∷ places part_length 0 (drop k (b ∷ text))
    by_length zero n = absurd (omega arith)
    by_length (suc k) n = let e : suc k - 1 ≡ k = omega arith in rw e (ap (λ (ps : List (List ℕ)). (b ∷ text) ∷ ps) (places-skip part_length k text))

pub places_end : (part_length : List ℕ → ℕ) (text : List ℕ) → length text < 1 → places part_length 0 text ≡ []
places_end part_length [] l = refl
places_end part_length (b ∷ text) l = absurd (omega arith)

-- something is left, and behind a part there is less
pub some_left : (rest : List ℕ) (none_left : Bool) → none_left ≡ (length rest == 0) → none_left ≡ false → 0 < length rest
some_left rest none_left is some = grind (arith, nat_tests)

pub all_read : (rest : List ℕ) (none_left : Bool) → none_left ≡ (length rest == 0) → none_left ≡ true → length rest < 1
all_read rest none_left is none = grind (arith, nat_tests)

pub less_left : (rest next : List ℕ) (k : ℕ) → 0 < length rest → 0 < k → next ≡ drop k rest → length next < length rest
less_left rest next k some positive behind = rw behind (omega (arith, length-drop k rest))

-- ---- how far a bracket goes

option_map-add : (o : Option ℕ) (a b : ℕ) → option_map (λ n. n + b) (option_map (λ n. n + a) o) ≡ option_map (λ n. n + (a + b)) o
option_map-add None a b = refl
option_map-add (Some n) a b = ap Some (omega arith)

pub option_map-zero : (o : Option ℕ) → option_map (λ n. n + 0) o ≡ o
option_map-zero None = refl
option_map-zero (Some n) = ap Some (omega arith)

pub length_to_end-skip : (skip : ℕ) (text : List ℕ) → length_to_end skip text ≡ option_map (λ n. n + skip) (length_to_end 0 (drop skip text))
length_to_end-skip zero text = sym (option_map-zero (length_to_end 0 text))
length_to_end-skip (suc skip) [] = refl
length_to_end-skip (suc skip) (b ∷ text) = ap (option_map (λ n. n + 1)) (length_to_end-skip skip text) ∙ option_map-add (length_to_end 0 (drop skip text)) skip 1 ∙ ap (λ (k : ℕ). option_map (λ n. n + k) (length_to_end 0 (drop skip text))) (omega arith)

-- one token, and then the rest
step_length : (b k : ℕ) (rest : List ℕ) → 0 < k → option_map (λ m. m + 1) (length_to_end (k - 1) rest) ≡ option_map (λ m. m + k) (length_to_end 0 (drop k (b ∷ rest)))
step_length b zero rest some = absurd (omega arith)
step_length b (suc k) rest some =
    let e : suc k - 1 ≡ k = omega arith in
    rw e (ap (option_map (λ m. m + 1)) (length_to_end-skip k rest) ∙ option_map-add (length_to_end 0 (drop k rest)) k 1 ∙ ap (λ (j : ℕ). option_map (λ m. m + j) (length_to_end 0 (drop k rest))) (omega arith))

-- what stays true while the end of a bracket is looked for
pub record Searching (text rest : List ℕ) (n : ℕ) : Type 0 where
  pub finds : option_map (λ m. m + n) (length_to_end 0 rest) ≡ body_length text
  pub counts : n + length rest ≡ length text

pub searching_start : (text rest : List ℕ) (n : ℕ) → token_length text ≡ Some n → rest ≡ drop n text → n ≤ length text → Searching text rest n
searching_start text rest n is behind l = record {
  finds = rw (behind, is) (sym (length_to_end-skip n text));
  counts = rw behind (omega (arith, length-drop n text));
}

pub searching_step : (text rest next : List ℕ) (n k : ℕ) → Searching text rest n → 0 < length rest → (get_or rest 0 0 ≡ 93 → ⊥) → token_length rest ≡ Some k → 0 < k → k ≤ length rest → next ≡ drop k rest → Searching text next (n + k)
searching_step text [] next n k s l other is some fits behind = absurd (omega arith)
searching_step text (b ∷ rest) next n k s l other is some fits behind = record {
  finds =
      let test : (b == 93) ≡ false = grind (arith, nat_tests) in
      let one : length_to_end 0 (b ∷ rest) ≡ option_map (λ m. m + k) (length_to_end 0 next) =
      rw (test, is, behind) (step_length b k rest some) in
      sym (option_map-add (length_to_end 0 next) k n ∙ ap (λ (j : ℕ). option_map (λ m. m + j) (length_to_end 0 next)) (omega arith)) ∙ sym (ap (option_map (λ m. m + n)) one) ∙ s.finds;
  counts = let c = s.counts in rw behind (omega (arith, length-drop k (b ∷ rest)));
}

pub searching_end : (text rest : List ℕ) (n : ℕ) → Searching text rest n → length rest < 1 → None ≡ body_length text
searching_end text [] n s none = s.finds
searching_end text (b ∷ rest) n s none = absurd (omega arith)

pub searching_found : (text rest : List ℕ) (n : ℕ) → Searching text rest n → 0 < length rest → get_or rest 0 0 ≡ 93 → Some n ≡ body_length text
searching_found text [] n s some is = absurd (omega arith)
searching_found text (b ∷ rest) n s some is =
    let test : (b == 93) ≡ true = grind (arith, nat_tests) in
    let one : length_to_end 0 (b ∷ rest) ≡ Some 0 = rw test refl in
    let same : Some n ≡ option_map (λ m. m + n) (Some 0) = ap Some (omega arith) in
    same ∙ sym (ap (option_map (λ m. m + n)) one) ∙ s.finds

pub searching_within : (text rest : List ℕ) (n : ℕ) → Searching text rest n → 0 < length rest → n < length text
searching_within text rest n s some = let counts = s.counts in omega arith

-- ---- one turn of a loop over the parts of a text

module _ (part_length : List ℕ → ℕ) where
  -- a part without the property changes nothing
  pub any_step : (test : List ℕ → Bool) (text next : List ℕ) (k : ℕ) → 0 < length text → 0 < k → k ≡ part_length text → next ≡ drop k text → test text ≡ false
      → list_any test (places part_length 0 next) ≡ list_any test (places part_length 0 text)
  any_step test text next k some positive is behind no_part =
      let first = places_step part_length text some (let p : 0 < part_length text = omega arith in p) in
      rw (behind, is, first, no_part) refl

  -- what a part adds goes to the end of what the parts before it gave
  pub flat_step : {A : Type 0} (given : List ℕ → List A) (made more whole : List A) (text next : List ℕ) (k : ℕ) → 0 < length text → 0 < k → k ≡ part_length text → next ≡ drop k text → more ≡ made ++ given text
      → made ++ flat_map given (places part_length 0 text) ≡ whole → more ++ flat_map given (places part_length 0 next) ≡ whole
  flat_step given made more whole text next k some positive is behind added e =
      let first = places_step part_length text some (let p : 0 < part_length text = omega arith in p) in
      rw (added, behind, is) (append_assoc made (given text) (flat_map given (places part_length 0 (drop (part_length text) text))) ∙ sym (ap (λ (ps : List (List ℕ)). made ++ flat_map given ps) first) ∙ e)

  -- behind the last part all is told
  pub any_end : (test : List ℕ → Bool) (rest : List ℕ) (whole : Bool) → length rest < 1 → list_any test (places part_length 0 rest) ≡ whole → false ≡ whole
  any_end test rest whole none e = sym (ap (list_any test) (places_end part_length rest none)) ∙ e

  pub flat_end : {A : Type 0} (given : List ℕ → List A) (made whole : List A) (rest : List ℕ) → length rest < 1 → made ++ flat_map given (places part_length 0 rest) ≡ whole → made ≡ whole
  flat_end given made whole rest none e = sym (append-nil made) ∙ sym (ap (λ (ps : List (List ℕ)). made ++ flat_map given ps) (places_end part_length rest none)) ∙ e
