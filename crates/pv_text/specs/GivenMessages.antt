-- Messages about lines, and the messages that a call has written. The texts are this project's own.
use Rattle.std.specs.Prelude.{◌≡◌, ℕ, List, ◌++◌, codes, take}
use Rattle.std.specs.Fmt.{decimal}
use Rattle.pv_text.specs.declared.place.Place.{Place}

-- The message about the line at a location: `FILE:N: TEXT`.
abbrev pub message_text_at : Place → List ℕ → List ℕ
message_text_at place text = place.file ++ codes ":" ++ decimal place.number ++ codes ": " ++ text

-- The call has written a prefix of all these messages, after the old ones.
abbrev pub MessagesPart : List (List ℕ) → List (List ℕ) → List (List ℕ) → Type 0
MessagesPart all old new = (n : ℕ) × (new ≡ old ++ take n all)
