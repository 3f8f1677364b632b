-- How a sum of numbers with units is printed. It is one of the forms that tmpfiles.d(5), "Age", allows.
use Rattle.std.specs.Prelude.{ℕ, ◌+◌, ◌*◌, List, [], ◌∷◌, ◌++◌, codes}
use Rattle.std.specs.Fmt.{decimal}
use Rattle.std.specs.List.{flat_map}
use Rattle.pv_age.specs.declared.unit.Unit.{Unit}
use Rattle.pv_age.specs.declared.unit.Unit.TheVariants.{Microsecond, Millisecond, Second, Minute, Hour, Day, Week}
use Rattle.pv_age.specs.Sums.{micros_in}

-- The shortest name of a unit.
abbrev pub short_name : Unit → List ℕ
short_name Microsecond = codes "us"
short_name Millisecond = codes "ms"
short_name Second = codes "s"
short_name Minute = codes "m"
short_name Hour = codes "h"
short_name Day = codes "d"
short_name Week = codes "w"

-- A number in decimal, and then the name of its unit. Example: `12h`.
abbrev pub printed_pair : ℕ × Unit → List ℕ
printed_pair pair = decimal pair.0 ++ short_name pair.1

-- Numbers with their units, one after another and without blanks. Example: `1d12h`.
abbrev pub printed : List (ℕ × Unit) → List ℕ
printed pairs = flat_map printed_pair pairs

-- The sum of some numbers with units, in microseconds.
abbrev pub micros_together : List (ℕ × Unit) → ℕ
micros_together [] = 0
micros_together (pair ∷ pairs) = pair.0 * micros_in pair.1 + micros_together pairs
