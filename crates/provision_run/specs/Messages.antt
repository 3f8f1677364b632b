-- How messages are printed (this project's own).
use Rattle.std.specs.Prelude.{ℕ, List, [], ◌∷◌, ◌++◌, codes}
use Rattle.std.specs.List.{flat_map, slice_get}
use Rattle.std.specs.Option.{option_map_or}

-- A message is a line that begins with a colon and a space. A later run skips such lines.
abbrev pub message : List ℕ → List ℕ
message text = codes ": " ++ text ++ 10 ∷ []

-- The text of some messages, one after another.
abbrev pub messages_text : List (List ℕ) → List ℕ
messages_text texts = flat_map message texts

-- The text of the message at an index. After the last one it is empty.
abbrev pub message_at : List (List ℕ) → ℕ → List ℕ
message_at texts i = option_map_or message (slice_get texts i) []
