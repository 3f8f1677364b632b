-- The names and IDs that are in use (passwd(5), group(5)).
use Rattle.std.specs.Prelude.{◌≡◌, ℕ, ◌+◌, Bool, false, not, ◌&&◌, ◌==◌, List, [], ◌∷◌, ◌++◌, Option, Some, None, is_some, nat_eq, option_and_then, unwrap_or, if◌then◌else◌}
use Rattle.std.specs.List.{list_any}
use Rattle.std.specs.Map.{lookup}
use Rattle.std.specs.Option.{option_map, option_map_or}
use Rattle.std.specs.Str.{bytes_eq}
use Rattle.pv_accounts.specs.Entries.{entry_of}
use Rattle.pv_accounts.specs.Files.{id_in, lines_of, name_of}

-- Names with their IDs, in the order in which they came.
abbrev pub Ids : Type 0
Ids = List (List ℕ × ℕ)

-- The ID of a name. If two pairs have this name, the first one counts.
abbrev pub id_of : Ids → List ℕ → Option ℕ
id_of ids name = lookup (bytes_eq name) ids

-- Whether some name has this ID.
abbrev pub is_held : Ids → ℕ → Bool
is_held ids id = list_any (λ held. held.1 == id) ids

-- Whether some name other than `but` has this ID.
abbrev pub is_held_beside : Ids → ℕ → List ℕ → Bool
is_held_beside ids id but = list_any (λ held. held.1 == id && not (bytes_eq but held.0)) ids

-- Whether this ID is that of this name.
abbrev pub is_own : Ids → ℕ → List ℕ → Bool
is_own ids id name = option_map_or (λ own. own == id) (id_of ids name) false

-- The name and the ID of a line, if it is an entry that has an ID.
abbrev pub named_in : (List (List ℕ) → Bool) → List ℕ → Option (List ℕ × ℕ)
named_in test line = option_and_then (λ entry. option_map (λ id. (name_of entry, id)) (id_in entry)) (entry_of test line)

-- Names and IDs with those of one more line. A name that is there already stays as it is.
abbrev pub with_line : (List (List ℕ) → Bool) → Ids → List ℕ → Ids
with_line test ids line = by (named_in test line)
  where
    by : Option (List ℕ × ℕ) → Ids
    by None = ids
    by (Some named) = if is_some (id_of ids named.0) then ids else ids ++ named ∷ []

-- Names and IDs with those of more lines, in order.
abbrev pub with_lines : (List (List ℕ) → Bool) → Ids → List (List ℕ) → Ids
with_lines test ids [] = ids
with_lines test ids (line ∷ lines) = with_lines test (with_line test ids line) lines

-- The names and IDs of a file, in order. If two entries have one name, the first one counts.
abbrev pub ids_of : (List (List ℕ) → Bool) → List ℕ → Ids
ids_of test file = with_lines test [] (lines_of file)

-- No name occurs twice.
abbrev pub AreApart : Ids → Type 0
AreApart [] = Unit {0}
AreApart (held ∷ ids) = (id_of ids held.0 ≡ None) × AreApart ids

-- How many names have this ID.
abbrev pub count_of : Ids → ℕ → ℕ
count_of [] id = 0
count_of (held ∷ ids) id = if held.1 == id then 1 + count_of ids id else count_of ids id

-- A table says for each ID how many names have it. An ID that is not in the table has the count 0.
abbrev pub AreCounts : List (ℕ × ℕ) → Ids → Type 0
AreCounts counts ids = (id : ℕ) → unwrap_or (lookup (nat_eq id) counts) 0 ≡ count_of ids id
