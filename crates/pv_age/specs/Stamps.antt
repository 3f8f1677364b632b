-- The timestamps that an age considers (tmpfiles.d(5), "Age"): `a` access, `b` birth, `c` change and `m`
-- modification. A lower case letter is for objects that are not directories, and an upper case letter is for
-- directories.
use Rattle.std.specs.Prelude.{ℕ, Bool, ◌^◌, ◌==◌, List, [], ◌∷◌, codes, position, Option, Result, Ok, Err}
use Rattle.std.specs.Option.{option_map}
use Rattle.std.specs.Int.RustNames.{bit_and, bit_or}
use Rattle.pv_age.specs.declared.age_fault.AgeFault.{AgeFault}
use Rattle.pv_age.specs.declared.age_fault.AgeFault.TheVariants.{BadStampLetter}
use Rattle.pv_path.specs.Results.{◌>>=◌, or_fault}
use Rattle.pv_age.specs.declared.stamps.StampSet.{StampSet}

-- The bit of a letter: 2^i, where i is its index in `aAbBcCmM`. Other letters have none.
abbrev pub letter_bit : ℕ → Option ℕ
letter_bit letter = option_map (λ i. 2 ^ i) (position (λ l. l == letter) (codes "aAbBcCmM"))

-- The bit of a letter, or the fault BadStampLetter if it is not one of these letters.
abbrev pub stamp_of : ℕ → Result ℕ AgeFault
stamp_of letter = or_fault BadStampLetter (letter_bit letter)

-- The set of the timestamps chosen so far and of those that the letters choose. The fault is BadStampLetter if a
-- letter is unknown.
abbrev pub stamps_with : ℕ → List ℕ → Result StampSet AgeFault
stamps_with bits [] = Ok (record { 0 = bits })
stamps_with bits (letter ∷ letters) = stamp_of letter >>= (λ bit. stamps_with (bit_or bits bit) letters)

-- The timestamps that a list of letters chooses. The list must not be empty.
abbrev pub stamps_of : List ℕ → Result StampSet AgeFault
stamps_of [] = Err BadStampLetter
stamps_of (letter ∷ letters) = stamps_with 0 (letter ∷ letters)

-- Whether a set has the timestamp of this bit.
abbrev pub has : StampSet → ℕ → Bool
has set bit = bit_and set.0 bit == bit
