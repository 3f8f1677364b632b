-- Printed numbers with units read back as their sum.
use Rattle.std.proofs.Common.{◌≡◌, ℕ, ◌+◌, ◌*◌, ◌^◌, ◌<◌, ◌≤◌, true, false, ◌==◌, nat_lt, List, [], ◌∷◌, ◌++◌, length, take, drop, Some, Ok, refl, sym, ap, ◌∙◌, arith, append_assoc, length-append}
use Rattle.std.proofs.Math.Seq.{drop-append_seam, take-append_seam}
use Rattle.std.proofs.lemmas.Bool.Decides.{nat_tests}
use Rattle.std.proofs.lemmas.Fmt.{decimal_is_IsNumeral}
use Rattle.std.proofs.lemmas.Str.Parse.{digit_at}
use Rattle.std.specs.Char.{is_ascii_alphabetic, is_ascii_digit}
use Rattle.std.specs.Fmt.{decimal}
use Rattle.std.specs.List.{prefix_len}
use Rattle.std.specs.Str.Parse.{AllDigits, digits_value}
use Rattle.pv_age.specs.declared.unit.Unit.{Unit}
use Rattle.pv_age.specs.declared.unit.Unit.TheVariants.{Microsecond, Millisecond, Second, Minute, Hour, Day, Week}
use Rattle.pv_age.specs.Printing.{short_name, printed, micros_together}
use Rattle.pv_age.specs.Sums.{behind_digits, digit_count, fitting, letter_count, micros_in, micros_of, number_at, pair_length, pair_micros, sum_with, unit_at, unit_micros}
use Rattle.pv_age.proofs.SumLaws.{sum_step}

-- ---- digits and letters

first_is_digit : (c : ℕ) (ds : List ℕ) → AllDigits 10 (c ∷ ds) → is_ascii_digit c ≡ true
first_is_digit c ds h = let r = digit_at (c ∷ ds) 0 h (omega arith) in grind (arith, nat_tests)

first_is_no_letter : (c : ℕ) (ds : List ℕ) → AllDigits 10 (c ∷ ds) → is_ascii_alphabetic c ≡ false
first_is_no_letter c ds h = let r = digit_at (c ∷ ds) 0 h (omega arith) in grind (arith, nat_tests)

-- digits before what does not begin with a digit
digits_end : (ds rest : List ℕ) → AllDigits 10 ds → prefix_len is_ascii_digit rest ≡ 0 → prefix_len is_ascii_digit (ds ++ rest) ≡ length ds
digits_end [] rest h e = e
digits_end (c ∷ ds) rest h e = let below = digits_end ds rest h.1 e in rw (first_is_digit c ds h) (omega (arith, below))

-- a text that begins with a digit does not begin with a letter
no_letters : (ds rest : List ℕ) → AllDigits 10 ds → 0 < length ds → prefix_len is_ascii_alphabetic (ds ++ rest) ≡ 0
no_letters [] rest h some = absurd (omega arith)
no_letters (c ∷ ds) rest h some = rw (first_is_no_letter c ds h) refl

-- ---- units

no_digits : (unit : Unit) (rest : List ℕ) → prefix_len is_ascii_digit (short_name unit ++ rest) ≡ 0
no_digits Microsecond rest = refl
no_digits Millisecond rest = refl
no_digits Second rest = refl
no_digits Minute rest = refl
no_digits Hour rest = refl
no_digits Day rest = refl
no_digits Week rest = refl

letters_end : (unit : Unit) (rest : List ℕ) → prefix_len is_ascii_alphabetic rest ≡ 0 → prefix_len is_ascii_alphabetic (short_name unit ++ rest) ≡ length (short_name unit)
letters_end Microsecond rest e = rw e refl
letters_end Millisecond rest e = rw e refl
letters_end Second rest e = rw e refl
letters_end Minute rest e = rw e refl
letters_end Hour rest e = rw e refl
letters_end Day rest e = rw e refl
letters_end Week rest e = rw e refl

unit_is : (unit : Unit) → unit_micros (short_name unit) ≡ Some (micros_in unit)
unit_is Microsecond = refl
unit_is Millisecond = refl
unit_is Second = refl
unit_is Minute = refl
unit_is Hour = refl
unit_is Day = refl
unit_is Week = refl

number_below : (unit : Unit) (n : ℕ) → n ≤ n * micros_in unit
number_below Microsecond n = omega arith
number_below Millisecond n = omega arith
number_below Second n = omega arith
number_below Minute n = omega arith
number_below Hour n = omega arith
number_below Day n = omega arith
number_below Week n = omega arith

-- ---- one pair

fits : (n : ℕ) → n < 2 ^ 64 → fitting n ≡ Ok n
fits n small = let below : nat_lt n (2 ^ 64) ≡ true = grind (arith, nat_tests) in rw below refl

module _ (n : ℕ) (unit : Unit) (rest : List ℕ) (small : n < 2 ^ 64) (ends : prefix_len is_ascii_alphabetic rest ≡ 0) where
  abbrev text : List ℕ
  text = decimal n ++ (short_name unit ++ rest)

  count_is : digit_count text ≡ length (decimal n)
  count_is = digits_end (decimal n) (short_name unit ++ rest) (decimal_is_IsNumeral n small).0.1 (no_digits unit rest)

  behind_is : behind_digits text ≡ short_name unit ++ rest
  behind_is = ap (λ (k : ℕ). drop k text) count_is ∙ drop-append_seam (decimal n) (short_name unit ++ rest)

  letters_are : letter_count text ≡ length (short_name unit)
  letters_are = ap (prefix_len is_ascii_alphabetic) behind_is ∙ letters_end unit rest ends

  number_is : number_at text ≡ n
  number_is =
      ap (λ (k : ℕ). digits_value 10 (take k text)) count_is
      ∙ ap (digits_value 10) (take-append_seam (decimal n) (short_name unit ++ rest))
      ∙ (decimal_is_IsNumeral n small).1

  unit_there : unit_at text ≡ Some (micros_in unit)
  unit_there =
      ap (λ (k : ℕ). unit_micros (take k (behind_digits text))) letters_are
      ∙ ap (λ (t : List ℕ). unit_micros (take (length (short_name unit)) t)) behind_is
      ∙ ap unit_micros (take-append_seam (short_name unit) rest)
      ∙ unit_is unit

  some_digits : (digit_count text == 0) ≡ false
  some_digits = let c = count_is in let some = (decimal_is_IsNumeral n small).0.0 in grind (arith, nat_tests)

  micros_are : n * micros_in unit < 2 ^ 64 → pair_micros text ≡ Ok (n * micros_in unit)
  micros_are below = rw (some_digits, unit_there, number_is) (fits (n * micros_in unit) below)

  length_is : pair_length text ≡ length (decimal n ++ short_name unit)
  length_is = let c = count_is in let l = letters_are in omega (arith, c, l, length-append (decimal n) (short_name unit))

  some_text : 0 < length text
  some_text = let some = (decimal_is_IsNumeral n small).0.0 in omega (arith, some, length-append (decimal n) (short_name unit ++ rest))

  rest_is : drop (pair_length text) text ≡ rest
  rest_is =
      ap (λ (t : List ℕ). drop (pair_length text) t) (sym (append_assoc (decimal n) (short_name unit) rest))
      ∙ ap (λ (k : ℕ). drop k ((decimal n ++ short_name unit) ++ rest)) length_is
      ∙ drop-append_seam (decimal n ++ short_name unit) rest

  with_one : (total : ℕ) → total + n * micros_in unit < 2 ^ 64 → sum_with 0 total text ≡ sum_with 0 (total + n * micros_in unit) rest
  with_one total below =
      let long : 0 < pair_length text = let c = count_is in let some = (decimal_is_IsNumeral n small).0.0 in omega (arith, c, some) in
      sum_step total (n * micros_in unit) (total + n * micros_in unit) text some_text long (micros_are (omega (arith, below))) (fits (total + n * micros_in unit) below)
      ∙ ap (sum_with 0 (total + n * micros_in unit)) rest_is

-- ---- all pairs

no_letters_first : (pairs : List (ℕ × Unit)) → micros_together pairs < 2 ^ 64 → prefix_len is_ascii_alphabetic (printed pairs) ≡ 0
no_letters_first [] small = refl
no_letters_first ((n, unit) ∷ pairs) small =
    let l = number_below unit n in
    let d = (decimal_is_IsNumeral n (omega (arith, l, small))).0 in
    ap (prefix_len is_ascii_alphabetic) (append_assoc (decimal n) (short_name unit) (printed pairs))
    ∙ no_letters (decimal n) (short_name unit ++ printed pairs) d.1 d.0

sum_is : (total : ℕ) (pairs : List (ℕ × Unit)) → total + micros_together pairs < 2 ^ 64 → sum_with 0 total (printed pairs) ≡ Ok (total + micros_together pairs)
sum_is total [] small = ap Ok (omega arith)
sum_is total ((n, unit) ∷ pairs) small =
    let l = number_below unit n in
    ap (sum_with 0 total) (append_assoc (decimal n) (short_name unit) (printed pairs))
    ∙ with_one n unit (printed pairs) (omega (arith, l, small)) (no_letters_first pairs (omega (arith, small))) total (omega (arith, small))
    ∙ sum_is (total + n * micros_in unit) pairs (omega (arith, small))
    ∙ ap Ok (omega arith)

from_none : (bytes : List ℕ) → 0 < length bytes → micros_of bytes ≡ sum_with 0 0 bytes
from_none [] some = absurd (omega arith)
from_none (b ∷ bytes) some = refl

pub sum_reads_back : (pair : ℕ × Unit) (pairs : List (ℕ × Unit)) → micros_together (pair ∷ pairs) < 2 ^ 64 → micros_of (printed (pair ∷ pairs)) ≡ Ok (micros_together (pair ∷ pairs))
sum_reads_back (n, unit) pairs small =
    let l = number_below unit n in
    let some : 0 < length (printed ((n, unit) ∷ pairs)) =
    let d = (decimal_is_IsNumeral n (omega (arith, l, small))).0.0 in
    omega (arith, d, length-append (decimal n ++ short_name unit) (printed pairs), length-append (decimal n) (short_name unit)) in
    from_none (printed ((n, unit) ∷ pairs)) some ∙ sum_is 0 ((n, unit) ∷ pairs) (omega (arith, small)) ∙ ap Ok (omega arith)
