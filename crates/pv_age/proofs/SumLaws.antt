-- The pairs of a text one after another.
use Rattle.std.proofs.Common.{◌≡◌, ℕ, zero, suc, ◌+◌, ◌-◌, ◌<◌, Bool, false, ◌==◌, List, [], ◌∷◌, length, drop, Ok, Err, refl, arith}
use Rattle.pv_age.specs.declared.age_fault.AgeFault.{AgeFault}
use Rattle.pv_age.specs.Sums.{fitting, pair_length, pair_micros, sum_with}

sum_with-skip : (skip total : ℕ) (text : List ℕ) → sum_with skip total text ≡ sum_with 0 total (drop skip text)
sum_with-skip zero total text = refl
sum_with-skip (suc skip) total [] = refl
sum_with-skip (suc skip) total (b ∷ text) = sum_with-skip skip total text

-- the sum with the first pair goes on behind it
pub sum_step : (total micros sum : ℕ) (text : List ℕ) → 0 < length text → 0 < pair_length text → pair_micros text ≡ Ok micros → fitting (total + micros) ≡ Ok sum → sum_with 0 total text ≡ sum_with 0 sum (drop (pair_length text) text)
sum_step total micros sum [] some long pair fits = absurd (omega arith)
sum_step total micros sum (b ∷ text) some long pair fits = rw (pair, fits) (by_length (pair_length (b ∷ text)) long)
  where
    by_length : (k : ℕ) → 0 < k → sum_with (k - 1) sum text ≡ sum_with 0 sum (drop k (b ∷ text))
    by_length zero n = absurd (omega arith)
    by_length (suc k) n = let e : suc k - 1 ≡ k = omega arith in rw e (sum_with-skip k sum text)

-- a fault of the first pair is the fault of the text
pub pair_fault : (total : ℕ) (text : List ℕ) (fault : AgeFault) → 0 < length text → pair_micros text ≡ Err fault → sum_with 0 total text ≡ Err fault
pair_fault total [] fault some pair = absurd (omega arith)
pair_fault total (b ∷ text) fault some pair = rw pair refl

-- and so is a fault of the sum with it
pub sum_fault : (total micros : ℕ) (text : List ℕ) (fault : AgeFault) → 0 < length text → pair_micros text ≡ Ok micros → fitting (total + micros) ≡ Err fault → sum_with 0 total text ≡ Err fault
sum_fault total micros [] fault some pair over = absurd (omega arith)
sum_fault total micros (b ∷ text) fault some pair over = rw (pair, over) refl

-- a text that is not empty has a byte
pub some_left : (text : List ℕ) (empty : Bool) → empty ≡ (length text == 0) → empty ≡ false → 0 < length text
some_left [] empty is not_so = absurd cc
some_left (b ∷ text) empty is not_so = omega arith
