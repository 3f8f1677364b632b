-- The bytes that end lines, separate fields and members, and mark lines that are not entries (passwd(5), group(5),
-- shadow(5), gshadow(5)).
use Prim.Native.Char.{code}
use Rattle.std.specs.Prelude.{ℕ}

-- The byte that ends a line.
abbrev pub line_end : ℕ
line_end = code "\n"

-- The byte between fields: `:`.
abbrev pub colon : ℕ
colon = code ":"

-- The byte between members: `,`.
abbrev pub comma : ℕ
comma = code ","

-- The first byte of a line that takes entries from elsewhere: `+`.
abbrev pub plus : ℕ
plus = code "+"

-- The first byte of a line that leaves such entries out: `-`.
abbrev pub minus : ℕ
minus = code "-"

-- The first byte of a comment line: `#`.
abbrev pub number_sign : ℕ
number_sign = code "#"
