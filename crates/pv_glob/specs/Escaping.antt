-- The pattern that matches one path alone, as a text (glob(7)).
use Rattle.std.specs.Prelude.{ℕ, Bool, ◌||◌, ◌==◌, List, [], ◌∷◌, if◌then◌else◌}
use Rattle.std.specs.List.{flat_map}
use Rattle.pv_path.specs.Paths.{Path}

-- Whether a byte does not stand for itself in a pattern: it is one of `\ * ? [ { }`.
abbrev pub is_special : ℕ → Bool
is_special b = b == 92 || b == 42 || b == 63 || b == 91 || b == 123 || b == 125

-- A byte, with a backslash before it if it would not stand for itself.
abbrev pub escaped_byte : ℕ → List ℕ
escaped_byte b = if is_special b then 92 ∷ b ∷ [] else b ∷ []

-- The text that stands for these bytes alone.
abbrev pub escaped : List ℕ → List ℕ
escaped bytes = flat_map escaped_byte bytes

-- The text that stands for this path alone: `/` for the root, otherwise `/` and the escaped name for each name.
abbrev pub escaped_path : Path → List ℕ
escaped_path [] = 47 ∷ []
escaped_path (name ∷ path) = flat_map (λ n. 47 ∷ escaped n) (name ∷ path)
