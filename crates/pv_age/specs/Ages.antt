-- How an age is spelled (tmpfiles.d(5), "Age"): an optional `~`, then optional timestamp letters with a colon, then a
-- sum of numbers with units. Example: `~aB:1d12h`.
use Rattle.std.specs.Prelude.{ℕ, ◌+◌, Bool, true, false, ◌==◌, List, [], ◌∷◌, codes, take, drop, position, Option, Some, None, Result, Ok, if◌then◌else◌}
use Rattle.pv_age.specs.declared.age.Age.{Age}
use Rattle.pv_age.specs.declared.age_fault.AgeFault.{AgeFault}
use Rattle.pv_path.specs.Results.{◌>>=◌}
use Rattle.pv_age.specs.Stamps.{stamps_of}
use Rattle.pv_age.specs.Sums.{micros_of}

-- The timestamp letters of an age: what is before the first colon. If there is no colon, they are `abcmABM`. The
-- argument is the index of the colon.
abbrev pub list_in : List ℕ → Option ℕ → List ℕ
list_in text None = codes "abcmABM"
list_in text (Some colon) = take colon text

-- The sum of an age: what follows the first colon. If there is no colon, it is the whole text.
abbrev pub sum_in : List ℕ → Option ℕ → List ℕ
sum_in text None = text
sum_in text (Some colon) = drop (colon + 1) text

-- The index of the first colon, if there is one.
abbrev pub colon_at : List ℕ → Option ℕ
colon_at text = position (λ b. b == 58) text

-- The age that a text without `~` spells, or its first fault. The timestamp letters are read before the sum.
abbrev pub age_with : Bool → List ℕ → Result Age AgeFault
age_with spare_first text =
    stamps_of (list_in text (colon_at text)) >>= (λ by.
    micros_of (sum_in text (colon_at text)) >>= (λ micros.
    Ok (record { micros = micros; by = by; spare_first = spare_first })))

-- The age that a text spells, or its first fault. With a leading `~`, what is directly in the directory is spared
-- (tmpfiles.d(5), "Age").
abbrev pub age_of : List ℕ → Result Age AgeFault
age_of [] = age_with false []
age_of (b ∷ text) = if b == 126 then age_with true text else age_with false (b ∷ text)
