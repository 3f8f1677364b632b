-- Decimal numbers and their texts.
use Rattle.std.proofs.Common.{◌≡◌, ℕ, zero, suc, ◌+◌, ◌<◌, ◌^◌, ◌/◌, ◌%◌, Bool, true, false, ◌&&◌, ◌==◌, nat_lt, List, [], ◌∷◌, Some, None, sym, subst, ◌∙◌, arith, if◌then◌else◌, refl}
use Rattle.std.specs.Fmt.{decimal, digit_glyph, digits, digits_onto}
use Rattle.std.specs.List.{list_all}
use Rattle.std.specs.Str.{bytes_eq}
use Rattle.std.specs.Str.Parse.{digits_value}
use Rattle.std.proofs.lemmas.Bool.Decides.{nat_tests}
use Rattle.std.proofs.lemmas.Bool.{and_from}
use Rattle.std.proofs.lemmas.Slice.Eq.{bytes_eq-Decides}
use Rattle.std.proofs.lemmas.Fmt.{decimal_digit, decimal_is_IsNumeral, decimal_injective}
use Rattle.pv_acl.specs.Numbers.{number_of}
use Rattle.pv_text.proofs.Characters.{is_digit}
use Rattle.pv_image.specs.Reading.{Reads}

value_is : (n : ℕ) (text : List ℕ) → n < 2 ^ 64 → text ≡ decimal n → digits_value 10 text ≡ n
value_is n text small e = subst (λ (t : List ℕ). digits_value 10 t ≡ n) (sym e) (decimal_is_IsNumeral n small).1

below : (n : ℕ) → nat_lt n 18446744073709551616 ≡ true → n < 2 ^ 64
below n h = grind (arith, nat_tests)

not_below : (n : ℕ) → nat_lt n 18446744073709551616 ≡ false → n < 2 ^ 64 → ⊥
not_below n h small = grind (arith, nat_tests)

-- the number of a text is the one of which the text is the spelling
pub number_reads : (text : List ℕ) → Reads decimal (λ n. n < 2 ^ 64) text (number_of text)
number_reads text = by_tests (nat_lt (digits_value 10 text) 18446744073709551616) refl (bytes_eq (decimal (digits_value 10 text)) text) refl
  where
    by_tests : (a : Bool) → nat_lt (digits_value 10 text) 18446744073709551616 ≡ a → (b : Bool) → bytes_eq (decimal (digits_value 10 text)) text ≡ b
        → Reads decimal (λ n. n < 2 ^ 64) text (if a && b then Some (digits_value 10 text) else None)
    by_tests true small true same = (below (digits_value 10 text) small, sym ((bytes_eq-Decides (decimal (digits_value 10 text)) text).0 same))
    by_tests true small false same = λ n fits e.
        let v = value_is n text fits e in
        let is : decimal (digits_value 10 text) ≡ text = subst (λ (m : ℕ). decimal m ≡ text) (sym v) (sym e) in
        let yes : bytes_eq (decimal (digits_value 10 text)) text ≡ true = (bytes_eq-Decides (decimal (digits_value 10 text)) text).1 is in
        cc
    by_tests false large b same = λ n fits e. not_below (digits_value 10 text) large (subst (λ (m : ℕ). m < 2 ^ 64) (sym (value_is n text fits e)) fits)

-- two numbers of one text are the same
pub same_number : (m n : ℕ) (text : List ℕ) → m < 2 ^ 64 → n < 2 ^ 64 → text ≡ decimal m → text ≡ decimal n → m ≡ n
same_number m n text fits small e f = decimal_injective m n fits small (sym e ∙ f)

-- ---- the text of any number has digits alone

glyph_is : (n : ℕ) → is_digit (digit_glyph false (n % 10)) ≡ true
glyph_is n = by_test (nat_lt (n % 10) 10) refl
  where
    by_test : (t : Bool) → nat_lt (n % 10) 10 ≡ t → is_digit (digit_glyph false (n % 10)) ≡ true
    by_test true e = rw e (grind (arith, nat_tests))
    by_test false e = absurd (let small : n % 10 < 10 = omega arith in grind (arith, nat_tests))

one_more : (n : ℕ) (after : List ℕ) → list_all is_digit after ≡ true → list_all is_digit (digit_glyph false (n % 10) ∷ after) ≡ true
one_more n after e = and_from (is_digit (digit_glyph false (n % 10))) (list_all is_digit after) (glyph_is n) e

onto_digits : (k n : ℕ) (after : List ℕ) → list_all is_digit after ≡ true → list_all is_digit (digits_onto k 10 false n after) ≡ true
onto_digits zero n after e = e
onto_digits (suc k) n after e = by_test (n / 10 == 0) refl (one_more n after e) (onto_digits k (n / 10) (digit_glyph false (n % 10) ∷ after) (one_more n after e))
  where
    by_test : (t : Bool) → (n / 10 == 0) ≡ t → list_all is_digit (digit_glyph false (n % 10) ∷ after) ≡ true
        → list_all is_digit (digits_onto k 10 false (n / 10) (digit_glyph false (n % 10) ∷ after)) ≡ true → list_all is_digit (digits_onto (suc k) 10 false n after) ≡ true
    by_test true q here next = rw q here
    by_test false q here next = rw q next

pub all_digits : (n : ℕ) → list_all is_digit (decimal n) ≡ true
unfolding digits
all_digits n = onto_digits 64 n [] refl

-- a digit alone is the text of its number
pub digit_reads : (text : List ℕ) (n : ℕ) → n < 10 → text ≡ (48 + n) ∷ [] → Reads decimal (λ m. m < 2 ^ 64) text (Some n)
digit_reads text n small e = (omega arith, e ∙ sym (decimal_digit n small))
