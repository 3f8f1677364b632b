-- Sets of letters, one letter after another, and attributes, one word after another.
use Rattle.std.specs.Prelude.{◌≡◌, ℕ, ◌+◌, ◌^◌, ◌<◌, ◌≤◌, ◌==◌, List, [], ◌∷◌, length, position, Option, Some, None, option_map, refl}
use Rattle.std.specs.Int.Bits.{or_zero_r}
use Rattle.std.specs.Int.RustNames.{bit_or}
use Rattle.std.proofs.Common.{arith, sym, ap, subst, ◌∙◌, drop, get_or, add-one}
use Rattle.std.proofs.Math.Pow.{pow-lt}
use Rattle.std.proofs.Math.ListN.{drop_of_length-le}
use Rattle.std.proofs.Math.Seq.{drop-cons}
use Rattle.std.proofs.lemmas.List.Quantifiers.{position-Some}
use Rattle.std.proofs.lemmas.Nat.{or_lt}
use Rattle.std.proofs.lemmas.Nat.Bits.{bit_at_or, same_from_bits}
use Rattle.pv_steps.specs.Letters.{all_letters, letter_bit}
use Rattle.pv_lines.specs.ArgumentField.{set_of}

or_assoc : (a b c : ℕ) → bit_or (bit_or a b) c ≡ bit_or a (bit_or b c)
or_assoc a b c = same_from_bits _ _ (λ i. omega (arith, bit_at_or (bit_or a b) c i, bit_at_or a b i, bit_at_or a (bit_or b c) i, bit_at_or b c i))

-- one letter more
set_next : (set bit : ℕ) (letter : ℕ) (letters : List ℕ) → letter_bit letter ≡ Some bit → option_map (bit_or (bit_or set bit)) (set_of letters) ≡ option_map (bit_or set) (set_of (letter ∷ letters))
set_next set bit letter letters is = by_rest (set_of letters) refl
  where
    by_rest : (rest : Option ℕ) → set_of letters ≡ rest → option_map (bit_or (bit_or set bit)) (set_of letters) ≡ option_map (bit_or set) (set_of (letter ∷ letters))
    by_rest (Some r) e = rw (e, is) (ap (λ (n : ℕ). Some n) (or_assoc set bit r))
    by_rest None e = rw (e, is) refl

-- the loop over letters goes on
pub set_step : (letters : List ℕ) (i set new bit : ℕ) (all : Option ℕ) → i < length letters → new ≡ bit_or set bit → Some bit ≡ letter_bit (get_or letters i 0)
    → option_map (bit_or set) (set_of (drop i letters)) ≡ all → option_map (bit_or new) (set_of (drop (i + 1) letters)) ≡ all
set_step letters i set new bit all below is read before =
    let letter : ℕ = get_or letters i 0 in
    let cut : drop i letters ≡ letter ∷ drop (i + 1) letters = rw (drop-cons letters i 0 below, add-one) refl in
    ap (λ (s : ℕ). option_map (bit_or s) (set_of (drop (i + 1) letters))) is
    ∙ set_next set bit letter (drop (i + 1) letters) (sym read)
    ∙ ap (λ (ls : List ℕ). option_map (bit_or set) (set_of ls)) (sym cut)
    ∙ before

-- and ends
pub set_end : (letters : List ℕ) (i set : ℕ) (all : Option ℕ) → length letters ≤ i → option_map (bit_or set) (set_of (drop i letters)) ≡ all → Some set ≡ all
set_end letters i set all past before =
    ap (λ (n : ℕ). Some n) (sym (or_zero_r set)) ∙ ap (λ (ls : List ℕ). option_map (bit_or set) (set_of ls)) (sym (drop_of_length-le letters past)) ∙ before

letter_bit-lt : (letter bit : ℕ) → letter_bit letter ≡ Some bit → bit < 2 ^ 15
letter_bit-lt letter bit e = by_place (position (λ l. l == letter) all_letters) refl e
  where
    by_place : (place : Option ℕ) → position (λ l. l == letter) all_letters ≡ place → option_map (λ i. 2 ^ i) place ≡ Some bit → bit < 2 ^ 15
    by_place None p is = absurd (let no : None ≡ Some bit = is in cc)
    by_place (Some i) p is =
        let same : 2 ^ i ≡ bit = cc in
        let below = position-Some (λ l. l == letter) all_letters i 0 p in
        let few : i < 15 = below.0 in
        subst (λ (n : ℕ). n < 2 ^ 15) same (pow-lt few)

-- a set of letters has no other bits
pub set_of-lt : (letters : List ℕ) (set : ℕ) → set_of letters ≡ Some set → set < 2 ^ 15
set_of-lt [] set e = let is : 0 ≡ set = cc in omega (arith, is)
set_of-lt (letter ∷ letters) set e = by_parts (letter_bit letter) refl (set_of letters) refl e (set_of-lt letters)
  where
    by_parts : (bit : Option ℕ) → letter_bit letter ≡ bit → (rest : Option ℕ) → set_of letters ≡ rest → set_of (letter ∷ letters) ≡ Some set
        → ((r : ℕ) → set_of letters ≡ Some r → r < 2 ^ 15) → set < 2 ^ 15
    by_parts (Some bit) b (Some rest) r made below =
        let same : bit_or bit rest ≡ set = (let is : Some (bit_or bit rest) ≡ Some set = rw (b, r) at made in cc) in
        subst (λ (n : ℕ). n < 2 ^ 15) same (or_lt 15 bit rest (letter_bit-lt letter bit b) (below rest r))
    by_parts (Some bit) b None r made below = absurd (let no : None ≡ Some set = rw (b, r) at made in cc)
    by_parts None b rest r made below = absurd (let no : None ≡ Some set = rw b at made in cc)
