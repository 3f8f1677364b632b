-- A text and the number of which it is the decimal spelling.
use Rattle.std.proofs.Common.{◌≡◌, ◌≢◌, ℕ, ◌<◌, ◌^◌, Bool, true, false, ◌&&◌, ◌||◌, ◌==◌, nat_lt, List, [], ◌∷◌, length, get_or, Some, None, Result, Ok, Err, refl, sym, subst, ap, ◌∙◌, arith, if◌then◌else◌, ◌⊎◌, inl, inr, ◌≤◌, ◌+◌, ◌*◌, take, Option, IfSome, IfNone}
use Rattle.std.proofs.lemmas.Bool.{cases_lt}
use Rattle.std.specs.Fmt.{decimal}
use Rattle.std.specs.Str.{bytes_eq, IsUtf8}
use Rattle.std.specs.Char.{digit_value}
use Rattle.std.specs.Str.Parse.{digits_value, ParsesUnsigned, AllDigits, IsNumeral}
use Rattle.std.proofs.lemmas.Int.Digits.{digits_value_more, digits_more}
use Rattle.std.proofs.lemmas.List.{length-take}
use Rattle.std.specs.Result.{result_ok, OkIff}
use Rattle.std.proofs.lemmas.Bool.Decides.{nat_tests}
use Rattle.std.proofs.lemmas.Slice.Eq.{bytes_eq-Decides}
use Rattle.std.proofs.lemmas.Str.{IsUtf8-from_ascii, digit_value_digit}
use Rattle.std.proofs.lemmas.Str.Parse.{IsNumeralModel, numerals_by_value, tells_digits, parse_plain, digit_at, digits_value_short}
use Rattle.std.proofs.lemmas.Fmt.{decimal_is_IsNumeral, decimal-digits_value, decimal_digit, first_decimal, IsAscii-decimal}
use Rattle.pv_acl.specs.Numbers.{number_of, odd_start}

own : IsNumeralModel (AllDigits 10) (digits_value 10)
own = numerals_by_value (AllDigits 10) tells_digits

-- a text that spells a number is that number
pub number_of-decimal : (n : ℕ) (text : List ℕ) → n < 2 ^ 64 → decimal n ≡ text → number_of text ≡ Some n
number_of-decimal n text small e =
    let value : digits_value 10 text ≡ n = subst (λ (t : List ℕ). digits_value 10 t ≡ n) e (decimal_is_IsNumeral n small).1 in
    let below : nat_lt n 18446744073709551616 ≡ true = grind (arith, nat_tests) in
    let same : bytes_eq (decimal n) text ≡ true = (bytes_eq-Decides (decimal n) text).1 e in
    rw (value, below, same)

-- a text that spells no number has none
pub number_of-none : (text : List ℕ) → ((n : ℕ) → n < 2 ^ 64 → decimal n ≡ text → ⊥) → number_of text ≡ None
number_of-none text never = by_tests (nat_lt (digits_value 10 text) 18446744073709551616) refl (bytes_eq (decimal (digits_value 10 text)) text) refl
  where
    below : (n : ℕ) → nat_lt n 18446744073709551616 ≡ true → n < 2 ^ 64
    below n h = grind (arith, nat_tests)

    by_tests : (a : Bool) → nat_lt (digits_value 10 text) 18446744073709551616 ≡ a → (b : Bool) → bytes_eq (decimal (digits_value 10 text)) text ≡ b → (if a && b then Some (digits_value 10 text) else None) ≡ None
    by_tests true small true same =
        absurd (never (digits_value 10 text) (below (digits_value 10 text) small) ((bytes_eq-Decides (decimal (digits_value 10 text)) text).0 same))
    by_tests true small false same = refl
    by_tests false small b same = refl

-- a decimal spelling begins with a digit, and with a zero only if it is one
first_digit : (n : ℕ) → n < 2 ^ 64 → (48 < get_or (decimal n) 0 0) ⊎ (decimal n ≡ 48 ∷ [])
first_digit n small = elim (cases_lt 0 n) [ inl positive ↦ inl (first_decimal n positive small) | inr zero ↦ inr (let e : n ≡ 0 = omega arith in rw e (decimal_digit 0 (omega arith))) ]

pub odd_is_none : (text : List ℕ) (n : ℕ) → odd_start text ≡ true → n < 2 ^ 64 → decimal n ≡ text → ⊥
odd_is_none text n odd small e = elim (first_digit n small) [ inl high ↦ high_is text odd (rw e at high) | inr one ↦ absurd (one_is (48 ∷ []) refl (subst (λ (t : List ℕ). odd_start t ≡ true) (sym e ∙ one) odd)) ]
  where
    high_one : (b : ℕ) → (b == 43) ≡ true → 48 < b → ⊥
    high_one b o h = grind (arith, nat_tests)

    high_more : (b : ℕ) → (b == 43 || b == 48) ≡ true → 48 < b → ⊥
    high_more b o h = grind (arith, nat_tests)

    high_is : (t : List ℕ) → odd_start t ≡ true → 48 < get_or t 0 0 → ⊥
    high_is [] o h = cc
    high_is (b ∷ []) o h = high_one b o h
    high_is (b ∷ c ∷ bs) o h = high_more b o h

    one_is : (t : List ℕ) → odd_start t ≡ false → odd_start t ≡ true → ⊥
    one_is t f o = cc

plain_start : (text : List ℕ) → odd_start text ≡ false → get_or text 0 0 ≢ 43
plain_start [] o e = omega (arith, e)
plain_start (b ∷ []) o e = by_test b o e
  where
    by_test : (b : ℕ) → (b == 43) ≡ false → b ≡ 43 → ⊥
    by_test b o e = grind (arith, nat_tests)
plain_start (b ∷ c ∷ bs) o e = by_test b o e
  where
    by_test : (b : ℕ) → (b == 43 || b == 48) ≡ false → b ≡ 43 → ⊥
    by_test b o e = grind (arith, nat_tests)

zero_alone : (text : List ℕ) → odd_start text ≡ false → 0 < length text → get_or text 0 0 ≡ 48 → length text ≡ 1
zero_alone [] o l e = absurd (omega arith)
zero_alone (b ∷ []) o l e = refl
zero_alone (b ∷ c ∷ bs) o l e = absurd (by_test b o e)
  where
    by_test : (b : ℕ) → (b == 43 || b == 48) ≡ false → b ≡ 48 → ⊥
    by_test b o e = grind (arith, nat_tests)

numeral : (n : ℕ) → n < 2 ^ 64 → AllDigits 10 (decimal n) × (0 < length (decimal n)) × (digits_value 10 (decimal n) < 2 ^ 64)
numeral n small =
    let d = decimal_is_IsNumeral n small in
    (d.0.1, d.0.0, rw d.1 small)

-- what `parse` answers for a text with no odd start
pub parsed_is : {E : Type 0} (text : List ℕ) (r : Result ℕ E) → odd_start text ≡ false → ParsesUnsigned 64 10 text r → result_ok r ≡ number_of text
parsed_is {E} text r o h = by_answer r (parse_plain own 64 text r h (plain_start text o))
  where
    by_answer : (r : Result ℕ E) → OkIff r (AllDigits 10 text × (0 < length text) × (digits_value 10 text < 2 ^ 64)) (digits_value 10 text) → result_ok r ≡ number_of text
    by_answer (Ok n) (holds, value) =
        ap (λ (m : ℕ). Some m) value
        ∙ sym (number_of-decimal (digits_value 10 text) text holds.2 (decimal-digits_value own text holds.0 holds.1 (zero_alone text o holds.1) holds.2))
    by_answer (Err e) fails =
        sym (number_of-none text (λ n small spelt. fails (subst (λ (t : List ℕ). AllDigits 10 t × (0 < length t) × (digits_value 10 t < 2 ^ 64)) spelt (numeral n small))))

-- a text that is not UTF-8 spells no number
pub no_text_no_number : (text : List ℕ) → (IsUtf8 text → ⊥) → number_of text ≡ None
no_text_no_number text none = number_of-none text (λ n small e. none (subst IsUtf8 e (IsUtf8-from_ascii (decimal n) (IsAscii-decimal n small))))

-- ---- texts of at most 19 digits

-- the digits up to a place, and one more
pub record Goes (text : List ℕ) (i value digit : ℕ) : Type 0 where
  pub bound : value < 10 ^ 18
  pub digits : AllDigits 10 (take (i + 1) text)
  pub next : value * 10 + digit ≡ digits_value 10 (take (i + 1) text)

pub goes : (text : List ℕ) (i value digit : ℕ) → length text ≤ 19 → i < length text → AllDigits 10 (take i text) → value ≡ digits_value 10 (take i text)
    → digit ≡ digit_value (get_or text i 0) → digit < 10 → Goes text i value digit
goes text i value digit short within digits is there small =
    let count : length (take i text) ≤ 18 = omega (arith, length-take i text) in
    let below : digits_value 10 (take i text) < 10 ^ 18 = digits_value_short own (take i text) 18 digits count in
    record {
      bound = omega (arith, is, below);
      digits = digits_more 10 text i within digits (subst (λ (d : ℕ). d < 10) there small);
      next = ap (λ (v : ℕ). v * 10 + digit) is ∙ ap (λ (d : ℕ). digits_value 10 (take i text) * 10 + d) there ∙ sym (digits_value_more 10 text i within);
    }

-- a byte that is no digit
pub no_numeral : (text : List ℕ) (i : ℕ) → i < length text → (digit_value (get_or text i 0) < 10 → ⊥) → IsNumeral 10 text → ⊥
no_numeral text i within other numeral =
    let at = digit_at text i numeral.1 within in
    other (omega (arith, digit_value_digit (get_or text i 0) at, at.0, at.1))

-- what such a text writes
pub short_is : (text : List ℕ) (r : Option ℕ) → odd_start text ≡ false → length text ≤ 19
    → IfSome r (λ n. IsNumeral 10 text × (n ≡ digits_value 10 text)) → IfNone r (IsNumeral 10 text → ⊥) → r ≡ number_of text
short_is text (Some n) o short some none =
    let numeral : IsNumeral 10 text = some.0 in
    let below : digits_value 10 text < 10 ^ 19 = digits_value_short own text 19 numeral.1 short in
    let fits : digits_value 10 text < 2 ^ 64 = omega (arith, below) in
    ap (λ (m : ℕ). Some m) some.1
    ∙ sym (number_of-decimal (digits_value 10 text) text fits (decimal-digits_value own text numeral.1 numeral.0 (zero_alone text o numeral.0) fits))
short_is text None o short some none =
    sym (number_of-none text (λ n small spelt. none (subst (λ (t : List ℕ). IsNumeral 10 t) spelt (decimal_is_IsNumeral n small).0)))
