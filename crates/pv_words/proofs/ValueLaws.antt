-- Texts of digits, and texts in UTF-8.
use Rattle.std.proofs.Common.{◌≡◌, ℕ, ◌<◌, ◌^◌, Bool, true, false, List, length, None, Result, Ok, Err, refl, arith}
use Rattle.std.proofs.lemmas.Bool.Decides.{nat_tests}
use Rattle.std.proofs.lemmas.Str.{IsUtf8-from_is_utf8, is_utf8-from_IsUtf8}
use Rattle.std.specs.Result.{OkIff, result_ok}
use Rattle.std.specs.Str.{IsUtf8, all_ascii_digits, is_utf8}
use Rattle.std.specs.Str.Parse.{digits_value}
use Rattle.pv_words.specs.Values.{decimal_value, moment_value, timestamp_value}

-- what `parse` reads of digits is the decimal
pub decimal-parsed : {E : Type 0} (bs : List ℕ) (r : Result ℕ E) → all_ascii_digits bs ≡ true
    → OkIff r ((0 < length bs) × (digits_value 10 bs < 2 ^ 64)) (digits_value 10 bs) → result_ok r ≡ decimal_value bs
decimal-parsed bs (Ok x) all h = rw all (grind (arith, nat_tests))
decimal-parsed bs (Err e) all h = rw all (grind (arith, nat_tests))

pub moment-text : (bs : List ℕ) → IsUtf8 bs → moment_value bs ≡ timestamp_value bs
moment-text bs u = rw (is_utf8-from_IsUtf8 bs u) refl

pub moment-other : (bs : List ℕ) → (IsUtf8 bs → ⊥) → moment_value bs ≡ None
moment-other bs n = by_test (is_utf8 bs) refl
  where
    by_test : (b : Bool) → is_utf8 bs ≡ b → moment_value bs ≡ None
    by_test true text = absurd (n (IsUtf8-from_is_utf8 bs text))
    by_test false no_text = rw no_text refl
