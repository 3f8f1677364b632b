-- Texts of digits.
use Rattle.std.proofs.Common.{◌≡◌, ℕ, ◌<◌, ◌^◌, Bool, true, false, List, [], ◌∷◌, length, take, Result, Ok, Err, refl, arith}
use Rattle.std.proofs.lemmas.Bool.Decides.{nat_tests}
use Rattle.std.proofs.lemmas.List.Sums.{take_while-cons}
use Rattle.std.specs.Char.{is_ascii_digit}
use Rattle.std.specs.List.{prefix_len}
use Rattle.std.specs.Result.{OkIff}
use Rattle.std.specs.Str.{all_ascii_digits}
use Rattle.std.specs.Str.Parse.{digits_value}
use Rattle.pv_age.specs.declared.age_fault.AgeFault.TheVariants.{Overflow}
use Rattle.pv_age.specs.Sums.{fitting}

-- the digits that a text begins with are digits
pub digits_first : (text : List ℕ) → all_ascii_digits (take (prefix_len is_ascii_digit text) text) ≡ true
digits_first [] = refl
digits_first (c ∷ text) = by_test (is_ascii_digit c) refl (digits_first text)
  where
    by_test : (b : Bool) → is_ascii_digit c ≡ b → all_ascii_digits (take (prefix_len is_ascii_digit text) text) ≡ true → all_ascii_digits (take (prefix_len is_ascii_digit (c ∷ text)) (c ∷ text)) ≡ true
    by_test true digit rest = rw (take_while-cons is_ascii_digit c text, digit, digit) rest
    by_test false other rest = rw (take_while-cons is_ascii_digit c text, other) refl

-- digits that `parse` refuses are above 64 bits
pub parse_over : {E : Type 0} (bs : List ℕ) (r : Result ℕ E) (e : E) → 0 < length bs → r ≡ Err e → OkIff r ((0 < length bs) × (digits_value 10 bs < 2 ^ 64)) (digits_value 10 bs) → Err Overflow ≡ fitting (digits_value 10 bs)
parse_over bs (Ok x) e some is h = absurd cc
parse_over bs (Err e) e' some is h = grind (arith, nat_tests)
