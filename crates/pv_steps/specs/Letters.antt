-- File attribute flags of files and directories, given by their letters, and sets of flags as numbers (chattr(1)).
use Rattle.std.specs.Prelude.{ℕ, ◌-◌, ◌^◌, Bool, false, ◌==◌, List, position, filter, codes, Option}
use Rattle.std.specs.Option.{option_map, option_map_or}
use Rattle.std.specs.Int.RustNames.{bit_and, bit_or}
use Rattle.pv_steps.specs.declared.letters.LetterHow.{LetterHow}
use Rattle.pv_steps.specs.declared.letters.LetterHow.TheVariants.{Add, Take, Put}

-- The letters of the flags, in byte order.
abbrev pub all_letters : List ℕ
all_letters = codes "ACDPSTacdeijstu"

-- The bit of a flag, by the index of its letter among these.
abbrev pub letter_bit : ℕ → Option ℕ
letter_bit letter = option_map (λ i. 2 ^ i) (position (λ l. l == letter) all_letters)

-- Whether a set has a flag.
abbrev pub has_letter : ℕ → ℕ → Bool
has_letter set letter = option_map_or (λ bit. bit_and set bit == bit) (letter_bit letter) false

-- The letters of a set, in byte order.
abbrev pub letters_of : ℕ → List ℕ
letters_of set = filter (has_letter set) all_letters

-- A set without the flags of another.
abbrev pub without_letters : ℕ → ℕ → ℕ
without_letters set taken = bit_and set (2 ^ 15 - 1 - taken)

-- A set after flags were added to it (`+`), taken from it (`-`), or put in its place (`=`).
abbrev pub letters_after : LetterHow → ℕ → ℕ → ℕ
letters_after Add letters set = bit_or set letters
letters_after Take letters set = without_letters set letters
letters_after Put letters set = letters
