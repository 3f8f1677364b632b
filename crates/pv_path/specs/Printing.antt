-- How bytes and paths are printed in images and messages (this project's own form).
use Rattle.std.specs.Prelude.{ℕ, ◌+◌, ◌/◌, ◌%◌, Bool, not, ◌&&◌, ◌==◌, nat_le, nat_lt, List, [], ◌∷◌, ◌++◌, codes, if◌then◌else◌}
use Rattle.std.specs.List.{flat_map, list_any}
use Rattle.pv_path.specs.Paths.{Path}

-- Whether a byte is printed as itself: printable ASCII without space and backslash.
abbrev pub is_plain : ℕ → Bool
is_plain b = nat_le 33 b && nat_le b 126 && not (b == 92)

-- The lower case hexadecimal digit of a number below 16.
abbrev pub hex_digit : ℕ → ℕ
hex_digit d = if nat_lt d 10 then 48 + d else 87 + d

-- A byte as it is printed. If it passes the test, it is printed as itself. Otherwise it is `\x` and two hexadecimal
-- digits.
abbrev pub printed_byte_by : (ℕ → Bool) → ℕ → List ℕ
printed_byte_by plain b = if plain b then b ∷ [] else codes "\\x" ++ hex_digit (b / 16) ∷ hex_digit (b % 16) ∷ []

-- Bytes as they are printed, one after the other. Those that pass the test are printed as themselves.
abbrev pub printed_by : (ℕ → Bool) → List ℕ → List ℕ
printed_by plain bytes = flat_map (printed_byte_by plain) bytes

-- Whether a byte is printed as itself if the bytes `hidden` are escaped too: it is plain, and none of these.
abbrev pub is_plain_but : List ℕ → ℕ → Bool
is_plain_but hidden b = is_plain b && not (list_any (λ h. h == b) hidden)

-- Bytes as they are printed. Example: `a b` is printed as `a\x20b`.
abbrev pub printed : List ℕ → List ℕ
printed bytes = printed_by is_plain bytes

-- A path as it is printed: `/` for the root, otherwise `/` and the printed name for each name.
abbrev pub printed_path : Path → List ℕ
printed_path [] = 47 ∷ []
printed_path (name ∷ path) = flat_map (λ n. 47 ∷ printed n) (name ∷ path)
