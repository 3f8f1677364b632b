-- Octal digits, and the numbers that a few of them write.
use Rattle.std.proofs.Common.{◌≡◌, ℕ, zero, suc, ◌+◌, ◌-◌, ◌*◌, ◌^◌, ◌<◌, ◌≤◌, Bool, true, List, [], ◌∷◌, length, take, get_or, arith, rules}
use Rattle.std.specs.Char.{is_digit, digit_value}
use Rattle.std.specs.List.{list_all}
use Rattle.std.specs.Str.Parse.{digits_value, AllDigits}
use Rattle.std.proofs.Math.Nat.{pow-le-pow_right}
use Rattle.std.proofs.lemmas.Bool.Decides.{nat_tests}
use Rattle.std.proofs.lemmas.Int.Digits.{digits_value-lt, digits_value_more}
use Rattle.std.proofs.lemmas.Str.{digit_value_digit}
use Rattle.std.proofs.lemmas.Str.Parse.{digit_from_value, digits_value-take-le}
use Rattle.std.proofs.lemmas.Bool.{and_parts}

-- the test of octal digits
abbrev pub octal : List ℕ → Bool
octal text = list_all (λ b. is_digit b 8) text

digit_small : (b : ℕ) → is_digit b 8 ≡ true → digit_value b < 8
digit_small b is = grind (arith, nat_tests, is)

all_digits : (text : List ℕ) → octal text ≡ true → AllDigits 8 text
all_digits [] all = search rules
all_digits (b ∷ text) all =
    let both = and_parts (is_digit b 8) (octal text) all in
    (digit_small b both.0, all_digits text both.1)

-- a byte that is an octal digit
pub record IsOctal (b : ℕ) : Type 0 where
  pub from : 48 ≤ b
  pub value : digit_value b + 48 ≡ b
  pub small : digit_value b < 8

is_octal : (b : ℕ) → is_digit b 8 ≡ true → IsOctal b
is_octal b is =
    let small = digit_small b is in
    let same = digit_value_digit b (digit_from_value b (omega (arith, small))) in
    record { from = omega (arith, same); value = same; small = small }

pub octal_at : (text : List ℕ) (i : ℕ) → octal text ≡ true → i < length text → IsOctal (get_or text i 0)
octal_at [] i all h = absurd (omega (arith, h))
octal_at (b ∷ text) zero all h = is_octal b (and_parts (is_digit b 8) (octal text) all).0
octal_at (b ∷ text) (suc i) all h = octal_at text i (and_parts (is_digit b 8) (octal text) all).1 (omega (arith, h))

-- at most five octal digits write at most 32767
short_value : (text : List ℕ) → octal text ≡ true → length text ≤ 5 → digits_value 8 text ≤ 32767
short_value text all short =
    let value = digits_value-lt 8 text (all_digits text all) in
    let most : 8 ^ length text ≤ 8 ^ 5 = pow-le-pow_right (omega arith) short in
    let most : 8 ^ length text ≤ 32768 = most in
    omega (arith, value, most)

-- the number after one digit more
pub record Goes (text : List ℕ) (i value : ℕ) : Type 0 where
  pub next : digits_value 8 (take (i + 1) text) ≡ value * 8 + (get_or text i 0 - 48)
  pub digit : 48 ≤ get_or text i 0
  pub bound : value * 8 + (get_or text i 0 - 48) ≤ 32767

pub goes : (text : List ℕ) (i value : ℕ) → octal text ≡ true → length text ≤ 5 → i < length text → value ≡ digits_value 8 (take i text) → Goes text i value
goes text i value all short h is =
    let digit = octal_at text i all h in
    let more = digits_value_more 8 text i h in
    let step : digits_value 8 (take (i + 1) text) ≡ value * 8 + (get_or text i 0 - 48) = omega (arith, more, is, digit.value, digit.from) in
    let part = digits_value-take-le 8 text (i + 1) (omega arith) in
    record { next = step; digit = digit.from; bound = omega (arith, step, part, short_value text all short) }
