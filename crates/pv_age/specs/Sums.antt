-- The sum of numbers with units that an age is (tmpfiles.d(5), "Age"). Example: `1d12h`.
use Rattle.std.specs.Prelude.{ℕ, zero, suc, ◌+◌, ◌-◌, ◌*◌, ◌^◌, Bool, ◌==◌, nat_lt, List, [], ◌∷◌, codes, take, drop, find, Option, Result, Ok, Err, if◌then◌else◌}
use Rattle.std.specs.Char.{is_ascii_digit, is_ascii_alphabetic}
use Rattle.std.specs.List.{list_any, prefix_len}
use Rattle.std.specs.Option.{option_map}
use Rattle.std.specs.Str.{bytes_eq}
use Rattle.std.specs.Str.Parse.{digits_value}
use Rattle.pv_age.specs.declared.age_fault.AgeFault.{AgeFault}
use Rattle.pv_age.specs.declared.age_fault.AgeFault.TheVariants.{BadNumber, BadUnit, Overflow}
use Rattle.pv_path.specs.Results.{◌>>=◌, or_fault}
use Rattle.pv_age.specs.declared.unit.Unit.{Unit}
use Rattle.pv_age.specs.declared.unit.Unit.TheVariants.{Microsecond, Millisecond, Second, Minute, Hour, Day, Week}

-- The names of each unit. A number without a name is in seconds.
abbrev pub names_of : Unit → List (List ℕ)
names_of Microsecond = codes "us" ∷ codes "usec" ∷ []
names_of Millisecond = codes "ms" ∷ codes "msec" ∷ []
names_of Second = [] ∷ codes "s" ∷ codes "sec" ∷ codes "second" ∷ codes "seconds" ∷ []
names_of Minute = codes "m" ∷ codes "min" ∷ codes "minute" ∷ codes "minutes" ∷ []
names_of Hour = codes "h" ∷ codes "hr" ∷ codes "hour" ∷ codes "hours" ∷ []
names_of Day = codes "d" ∷ codes "day" ∷ codes "days" ∷ []
names_of Week = codes "w" ∷ codes "week" ∷ codes "weeks" ∷ []

-- How many microseconds a unit has.
abbrev pub micros_in : Unit → ℕ
micros_in Microsecond = 1
micros_in Millisecond = 1000
micros_in Second = 1000000
micros_in Minute = 60000000
micros_in Hour = 3600000000
micros_in Day = 86400000000
micros_in Week = 604800000000

-- Whether a unit has this name.
abbrev pub is_called : List ℕ → Unit → Bool
is_called name unit = list_any (bytes_eq name) (names_of unit)

-- The unit that has this name, if there is one.
abbrev pub unit_named : List ℕ → Option Unit
unit_named name = find (is_called name) (Microsecond ∷ Millisecond ∷ Second ∷ Minute ∷ Hour ∷ Day ∷ Week ∷ [])

-- The microseconds of the unit that has this name, if there is one.
abbrev pub unit_micros : List ℕ → Option ℕ
unit_micros name = option_map micros_in (unit_named name)

-- A number of microseconds, or the fault Overflow if it is 2^64 or more.
abbrev pub fitting : ℕ → Result ℕ AgeFault
fitting n = if nat_lt n (2 ^ 64) then Ok n else Err Overflow

-- How many digits a text begins with.
abbrev pub digit_count : List ℕ → ℕ
digit_count text = prefix_len is_ascii_digit text

-- What follows the digits that a text begins with.
abbrev pub behind_digits : List ℕ → List ℕ
behind_digits text = drop (digit_count text) text

-- How many ASCII letters follow the digits that a text begins with.
abbrev pub letter_count : List ℕ → ℕ
letter_count text = prefix_len is_ascii_alphabetic (behind_digits text)

-- The decimal value of the digits that a text begins with.
abbrev pub number_at : List ℕ → ℕ
number_at text = digits_value 10 (take (digit_count text) text)

-- The microseconds of the unit that the letters after the digits name, if it is a unit.
abbrev pub unit_at : List ℕ → Option ℕ
unit_at text = unit_micros (take (letter_count text) (behind_digits text))

-- The length in bytes of the first pair of a text. A pair is a number and the name of its unit.
abbrev pub pair_length : List ℕ → ℕ
pair_length text = digit_count text + letter_count text

-- The first pair of a text in microseconds: its number times its unit. The faults, in this order, are BadNumber if
-- there is no digit, BadUnit if the letters name no unit, and Overflow.
abbrev pub pair_micros : List ℕ → Result ℕ AgeFault
pair_micros text =
    if digit_count text == 0 then Err BadNumber
    else or_fault BadUnit (unit_at text) >>= (λ micros. fitting (number_at text * micros))

-- The microseconds so far plus those of the first pair of a text, or the first fault.
abbrev pub with_pair : ℕ → List ℕ → Result ℕ AgeFault
with_pair total text = pair_micros text >>= (λ micros. fitting (total + micros))

-- The microseconds so far plus those of all pairs of a text, or the first fault. The first `skip` bytes are passed
-- over, since they belong to the pair before.
abbrev pub sum_with : ℕ → ℕ → List ℕ → Result ℕ AgeFault
sum_with skip total [] = Ok total
sum_with (suc skip) total (b ∷ text) = sum_with skip total text
sum_with zero total (b ∷ text) =
    with_pair total (b ∷ text) >>= (λ sum. sum_with (pair_length (b ∷ text) - 1) sum text)

-- The sum of one or more pairs in microseconds, or the first fault. An empty text has the fault BadNumber.
abbrev pub micros_of : List ℕ → Result ℕ AgeFault
micros_of [] = Err BadNumber
micros_of (b ∷ text) = sum_with 0 0 (b ∷ text)
