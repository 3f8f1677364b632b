-- A count of faults. It never falls, and stays at its last value, 2^64 - 1.
use Rattle.std.specs.Prelude.{◌≡◌, ◌<◌, ◌⊎◌, ◌+◌, ℕ, min}

-- The last value of a count in 64 bits.
abbrev pub last_count : ℕ
last_count = 18446744073709551615

-- The count rose in a call: it is greater than before, or it is at its last value.
abbrev pub HasRisen : ℕ → ℕ → Type 0
HasRisen old new = (old < new) ⊎ (new ≡ last_count)

-- The count after one more fault.
abbrev pub fault_after : ℕ → ℕ
fault_after n = min (n + 1) last_count
