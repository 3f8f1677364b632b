-- Sets of letters are read back in one way.
use Rattle.std.proofs.Common.{◌≡◌, ◌≢◌, ℕ, zero, suc, ◌+◌, ◌*◌, ◌%◌, ◌^◌, ◌<◌, ◌≤◌, Bool, true, false, not, ◌||◌, ◌==◌, List, [], ◌∷◌, get_or, filter, codes, Option, Some, None, refl, sym, ap, ◌∙◌, subst, arith, if◌then◌else◌}
use Rattle.std.specs.Int.Bits.{bit_and, bit_or}
use Rattle.std.specs.Int.{bit_at}
use Rattle.std.specs.List.{list_all, list_any}
use Rattle.std.specs.Option.{option_map_or}
use Rattle.std.proofs.lemmas.Bool.{eqb-true}
use Rattle.std.proofs.lemmas.Bool.Decides.{nat_tests}
use Rattle.std.proofs.Math.Nat.{mod-lt}
use Rattle.std.proofs.lemmas.Nat.{mod-pow-add, or_disjoint, pow_pos}
use Rattle.std.proofs.lemmas.Nat.Bits.{and_pow, bit_at-lt, bit_at_above}
use Rattle.pv_acl.specs.Texts.{or_dash}
use Rattle.pv_steps.specs.declared.node.Kind.{Kind}
use Rattle.pv_steps.specs.declared.node.Kind.TheVariants.{Directory, File, Link, Fifo, CharDevice, BlockDevice}
use Rattle.pv_steps.specs.Letters.{all_letters, has_letter, letter_bit, letters_of}
use Rattle.pv_steps.specs.Objects.{LettersFit}
use Rattle.pv_image.specs.Spelling.{letters_text}
use Rattle.pv_image.specs.Reading.{IsLetters, Reads}
use Rattle.pv_image.proofs.AclLetters.{all_filter}
use Rattle.pv_image.proofs.Once.{all_to, all_to_is}
use Rattle.pv_path.proofs.Tests.{same_number}

-- ---- bits

-- a set with the bit of a letter, where that is wanted
abbrev pub with_bit : ℕ → ℕ → Bool → ℕ
with_bit set letter wanted = option_map_or (λ bit. if wanted then bit_or set bit else set) (letter_bit letter) set

-- a set, by the first of the letters, as they stand in a text
abbrev pub found : List ℕ → ℕ → ℕ
found text zero = 0
found text (suc i) = with_bit (found text i) (get_or all_letters i 0) (list_any (λ l. l == get_or all_letters i 0) text)

-- ---- letters among those of a set

any_filter : (p : ℕ → Bool) (y : ℕ) (xs : List ℕ) → list_any (λ x. x == y) xs ≡ true → list_any (λ x. x == y) (filter p xs) ≡ p y
any_filter p y xs e = by (p y) refl
  where
    none : p y ≡ false → (xs : List ℕ) → list_any (λ x. x == y) (filter p xs) ≡ false
    none q [] = refl
    none q (x ∷ xs) = by_test (none q xs) (p x) refl
      where
        by_test : list_any (λ z. z == y) (filter p xs) ≡ false → (t : Bool) → p x ≡ t → list_any (λ z. z == y) (filter p (x ∷ xs)) ≡ false
        by_test below false r = rw r below
        by_test below true r = rw r (other (x == y) refl)
          where
            other : (u : Bool) → (x == y) ≡ u → ((x == y) || list_any (λ z. z == y) (filter p xs)) ≡ false
            other true s = let same : x ≡ y = eqb-true x y s in absurd (let bad : true ≡ false = sym r ∙ ap p same ∙ q in cc)
            other false s = rw s below

    some : p y ≡ true → (xs : List ℕ) → list_any (λ x. x == y) xs ≡ true → list_any (λ x. x == y) (filter p xs) ≡ true
    some q [] h = cc
    some q (x ∷ xs) h = by_test (some q xs) (x == y) refl
      where
        by_test : (list_any (λ z. z == y) xs ≡ true → list_any (λ z. z == y) (filter p xs) ≡ true) → (u : Bool) → (x == y) ≡ u → list_any (λ z. z == y) (filter p (x ∷ xs)) ≡ true
        by_test below true s = let yes : p x ≡ true = ap p (eqb-true x y s) ∙ q in rw (yes, s) refl
        by_test below false s = by_pass (p x) refl (below (rw s at h))
          where
            by_pass : (t : Bool) → p x ≡ t → list_any (λ z. z == y) (filter p xs) ≡ true → list_any (λ z. z == y) (filter p (x ∷ xs)) ≡ true
            by_pass true r k = rw (r, s) k
            by_pass false r k = rw r k

    by : (t : Bool) → p y ≡ t → list_any (λ x. x == y) (filter p xs) ≡ p y
    by true q = some q xs e ∙ sym q
    by false q = none q xs ∙ sym q

-- ---- one letter more

no_times : (p : ℕ) → 0 * p ≡ 0
no_times p = omega arith

none_more : (n : ℕ) → 0 + n ≡ n
none_more n = omega arith

one_times : (p : ℕ) → 1 * p ≡ p
one_times p = omega arith

no_power : (p : ℕ) → 0 < p → (0 == p) ≡ false
no_power p some = grind (arith, nat_tests)

-- the first of the bits of a number, and one more
one_more : (s k : ℕ) (wanted : Bool) → wanted ≡ (bit_and s (2 ^ k) == 2 ^ k) → (if wanted then bit_or (s % 2 ^ k) (2 ^ k) else s % 2 ^ k) ≡ s % 2 ^ suc k
one_more s k wanted is = by_bit (bit_at s k) refl (bit_at-lt s k)
  where
    step : s % 2 ^ suc k ≡ bit_at s k * 2 ^ k + s % 2 ^ k
    step = let e : suc k ≡ 1 + k = omega arith in rw e (mod-pow-add s 1 k)

    by_bit : (b : ℕ) → bit_at s k ≡ b → b < 2 → (if wanted then bit_or (s % 2 ^ k) (2 ^ k) else s % 2 ^ k) ≡ s % 2 ^ suc k
    by_bit zero e lt =
        let none : bit_and s (2 ^ k) ≡ 0 = and_pow s k ∙ ap (λ (x : ℕ). x * 2 ^ k) e ∙ no_times (2 ^ k) in
        let no : wanted ≡ false = is ∙ ap (λ (x : ℕ). x == 2 ^ k) none ∙ no_power (2 ^ k) (pow_pos k) in
        rw no (sym (step ∙ ap (λ (x : ℕ). x * 2 ^ k + s % 2 ^ k) e ∙ ap (λ (x : ℕ). x + s % 2 ^ k) (no_times (2 ^ k)) ∙ none_more (s % 2 ^ k)))
    by_bit (suc zero) e lt =
        let all : bit_and s (2 ^ k) ≡ 2 ^ k = and_pow s k ∙ ap (λ (x : ℕ). x * 2 ^ k) e ∙ one_times (2 ^ k) in
        let yes : wanted ≡ true = is ∙ ap (λ (x : ℕ). x == 2 ^ k) all ∙ same_number (2 ^ k) in
        let apart : bit_and (s % 2 ^ k) (2 ^ k) ≡ 0 = and_pow (s % 2 ^ k) k ∙ ap (λ (x : ℕ). x * 2 ^ k) (bit_at_above (s % 2 ^ k) k k (mod-lt s (pow_pos k)) (omega arith)) ∙ no_times (2 ^ k) in
        let sum : s % 2 ^ suc k ≡ 2 ^ k + s % 2 ^ k = step ∙ ap (λ (x : ℕ). x * 2 ^ k + s % 2 ^ k) e ∙ ap (λ (x : ℕ). x + s % 2 ^ k) (one_times (2 ^ k)) in
        rw yes (or_disjoint (s % 2 ^ k) (2 ^ k) apart ∙ turned (s % 2 ^ k) (2 ^ k) ∙ sym sum)
      where
        turned : (a b : ℕ) → a + b ≡ b + a
        turned a b = omega arith
    by_bit (suc (suc b)) e lt = absurd (omega arith)

is_some_of : (o : Option ℕ) (n : ℕ) → option_map_or (λ b. b == n) o false ≡ true → o ≡ Some n
is_some_of None n e = cc
is_some_of (Some b) n e = ap Some (eqb-true b n e)

bits_at : all_to (λ i. option_map_or (λ b. b == 2 ^ i) (letter_bit (get_or all_letters i 0)) false) 15 ≡ true
unfolding all_to
bits_at = refl

stand_at : all_to (λ i. list_any (λ l. l == get_or all_letters i 0) all_letters) 15 ≡ true
unfolding all_to
stand_at = refl

-- the letters of a set, taken one by one, make its first bits
found_is : (s i : ℕ) → i ≤ 15 → found (letters_of s) i ≡ s % 2 ^ i
found_is s zero h = let all : s % 1 ≡ 0 = omega arith in sym all
found_is s (suc i) h =
    let letter = get_or all_letters i 0 in
    let stands = list_any (λ l. l == letter) (letters_of s) in
    let here : letter_bit letter ≡ Some (2 ^ i) = is_some_of (letter_bit letter) (2 ^ i) (all_to_is (λ k. option_map_or (λ b. b == 2 ^ k) (letter_bit (get_or all_letters k 0)) false) 15 i bits_at (omega arith)) in
    let known = all_to_is (λ k. list_any (λ l. l == get_or all_letters k 0) all_letters) 15 i stand_at (omega arith) in
    let test : stands ≡ (bit_and s (2 ^ i) == 2 ^ i) = any_filter (has_letter s) letter all_letters known ∙ ap (λ (o : Option ℕ). option_map_or (λ bit. bit_and s bit == bit) o false) here in
    ap (λ (x : ℕ). with_bit x letter stands) (found_is s i (omega arith))
    ∙ ap (λ (o : Option ℕ). option_map_or (λ bit. if stands then bit_or (s % 2 ^ i) bit else s % 2 ^ i) o (s % 2 ^ i)) here
    ∙ one_more s i stands test

-- the set of the letters in a text is the one whose letters the text has
pub found_set : (s : ℕ) (text : List ℕ) → s < 2 ^ 15 → letters_of s ≡ text → found text 15 ≡ s
found_set s text small e =
    let all : s % 32768 ≡ s = omega arith in
    ap (λ (t : List ℕ). found t 15) (sym e) ∙ found_is s 15 (omega arith) ∙ all

-- ---- the column

no_dash_in : (s : ℕ) → list_all (λ b. not (b == 45)) (letters_of s) ≡ true
no_dash_in s = all_filter (λ b. not (b == 45)) (has_letter s) all_letters refl

-- letters in order are no dash
letters_no_dash : (s : ℕ) → letters_of s ≢ codes "-"
letters_no_dash s e =
    let here : list_all (λ b. not (b == 45)) (letters_of s) ≡ true = no_dash_in s in
    let all : list_all (λ b. not (b == 45)) (codes "-") ≡ true = subst (λ (t : List ℕ). list_all (λ b. not (b == 45)) t ≡ true) e here in
    let no : list_all (λ b. not (b == 45)) (codes "-") ≡ false = refl in
    cc

or_dash-injective : (xs ys : List ℕ) → xs ≢ codes "-" → ys ≢ codes "-" → or_dash xs ≡ or_dash ys → xs ≡ ys
or_dash-injective [] [] f g e = refl
or_dash-injective [] (y ∷ ys) f g e = absurd (g (sym e))
or_dash-injective (x ∷ xs) [] f g e = absurd (f e)
or_dash-injective (x ∷ xs) (y ∷ ys) f g e = e

pub letters_once : (a b : ℕ) → a < 2 ^ 15 → b < 2 ^ 15 → letters_text a ≡ letters_text b → a ≡ b
letters_once a b f g e =
    let same : letters_of a ≡ letters_of b = or_dash-injective (letters_of a) (letters_of b) (letters_no_dash a) (letters_no_dash b) e in
    sym (found_set a (letters_of a) f refl) ∙ found_set b (letters_of a) g (sym same)

pub letters_are : (kind : Kind) (letters : ℕ) → LettersFit kind letters → letters < 2 ^ 15
letters_are Directory letters fit = fit
letters_are File letters fit = fit
letters_are Link letters fit = omega (arith, fit)
letters_are Fifo letters fit = omega (arith, fit)
letters_are CharDevice letters fit = omega (arith, fit)
letters_are BlockDevice letters fit = omega (arith, fit)

-- a text that is the letters of a set, and neither empty nor a dash
pub set_reads : (text : List ℕ) (s : ℕ) → s < 2 ^ 15 → text ≢ [] → letters_of s ≡ text → Reads letters_text IsLetters text (Some s)
set_reads text s small some e = (small, by text some e)
  where
    by : (t : List ℕ) → t ≢ [] → letters_of s ≡ t → t ≡ letters_text s
    by [] none f = absurd (none refl)
    by (b ∷ bs) none f = ap or_dash (sym f)

pub set_none : (text : List ℕ) → text ≢ codes "-" → ((s : ℕ) → s < 2 ^ 15 → letters_of s ≡ text → text ≢ [] → ⊥) → Reads letters_text IsLetters text None
set_none text other none s small e = by (letters_of s) refl
  where
    by : (xs : List ℕ) → letters_of s ≡ xs → ⊥
    by [] f = other (e ∙ ap or_dash f)
    by (b ∷ bs) f = let is : text ≡ b ∷ bs = e ∙ ap or_dash f in none s small (f ∙ sym is) (λ empty. let bad : b ∷ bs ≡ [] = sym is ∙ empty in cc)
