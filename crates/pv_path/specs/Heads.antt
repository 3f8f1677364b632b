-- The head of a name: its first eight bytes as one number. The first byte is the highest, and zeros follow a name of
-- fewer than eight bytes.
use Rattle.std.specs.Prelude.{ℕ, List}
use Rattle.std.specs.Int.{w64, from_be_bytes}

-- The head of some bytes. Example: that of `a` is 97 * 256 ^ 7.
abbrev pub head_of : List ℕ → ℕ
head_of name = from_be_bytes w64 name
