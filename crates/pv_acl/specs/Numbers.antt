-- Numbers as texts write them: decimal digits without a sign and without leading zeros.
use Rattle.std.specs.Prelude.{ℕ, Bool, false, not, ◌&&◌, ◌||◌, ◌==◌, nat_le, nat_lt, List, [], ◌∷◌, Option, Some, None, option_and_then, if◌then◌else◌}
use Rattle.std.specs.Fmt.{decimal}
use Rattle.std.specs.Str.{bytes_eq}
use Rattle.std.specs.Str.Parse.{digits_value}

-- The number that a text writes in decimal, if there is one. It is below 2^64 and has no sign and no leading zeros.
-- Example: `007` does not write a number.
abbrev pub number_of : List ℕ → Option ℕ
number_of text =
    let n = digits_value 10 text in
    if nat_lt n 18446744073709551616 && bytes_eq (decimal n) text then Some n else None

-- Whether a line of configuration may write this ID: 0 to 4,294,967,294 without 65,535.
abbrev pub may_be_written : ℕ → Bool
may_be_written n = nat_le n 4294967294 && not (n == 65535)

-- The ID that a text writes, if it writes an ID that is allowed.
abbrev pub written_id : List ℕ → Option ℕ
written_id text = option_and_then (λ n. if may_be_written n then Some n else None) (number_of text)

-- Whether a text begins with a plus sign, or with a zero that is not its only byte.
abbrev pub odd_start : List ℕ → Bool
odd_start [] = false
odd_start (b ∷ []) = b == 43
odd_start (b ∷ c ∷ bs) = b == 43 || b == 48
