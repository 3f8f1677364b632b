-- Random numbers from a seed, one after the other, by a linear congruential generator (this project's own).
use Rattle.std.specs.Prelude.{ℕ, ◌+◌, ◌*◌, ◌/◌, ◌%◌, zero, suc}

-- The next state.
abbrev pub next : ℕ → ℕ
next x = (1103515245 * x + 12345) % 2147483648

-- The state after a number of draws from a seed.
abbrev pub state_of : ℕ → ℕ → ℕ
state_of seed zero = seed % 2147483648
state_of seed (suc i) = next (state_of seed i)

-- The number that a state gives.
abbrev pub number_in : ℕ → ℕ
number_in x = x / 65536
