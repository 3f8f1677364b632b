-- The kinds of account files, and what an entry is in each (passwd(5), group(5), shadow(5), gshadow(5)).
use Rattle.std.specs.Prelude.{ℕ, Bool, true, false, ◌&&◌, ◌==◌, List, Option, Some, None, option_and_then, if◌then◌else◌}
use Rattle.std.specs.List.{position_or_len}
use Rattle.std.specs.Option.{option_map_or}
use Rattle.pv_accounts.specs.declared.find.Kind.{Kind}
use Rattle.pv_accounts.specs.declared.find.Kind.TheVariants.{Passwd, Group, Shadow, Gshadow}
use Rattle.pv_accounts.specs.Entries.{entry_of, is_passwd, is_group, is_shadow, is_gshadow}
use Rattle.pv_accounts.specs.Files.{name_of, has_name, holds_beside}

-- The test that says whether fields are an entry of this kind of file.
abbrev pub test_of : Kind → List (List ℕ) → Bool
test_of Passwd = is_passwd
test_of Group = is_group
test_of Shadow = is_shadow
test_of Gshadow = is_gshadow

-- Whether the entries of this kind of file have members, which are the last of four fields.
abbrev pub has_members : Kind → Bool
has_members Group = true
has_members Gshadow = true
has_members _ = false

-- Whether a line is an entry with this name.
abbrev pub is_entry_named : (List (List ℕ) → Bool) → List ℕ → List ℕ → Bool
is_entry_named test name line = option_map_or (has_name name) (entry_of test line) false

-- An entry, if it passes the test.
abbrev pub only_if : (List (List ℕ) → Bool) → List (List ℕ) → Option (List (List ℕ))
only_if test entry = if test entry then Some entry else None

-- Whether the first line that is an entry with the same name is the one at this index.
abbrev pub is_first_at : (List (List ℕ) → Bool) → List (List ℕ) → ℕ → List (List ℕ) → Bool
is_first_at test lines place entry = position_or_len (is_entry_named test (name_of entry)) lines == place

-- The entry of the line at this index, if the entry has this ID and counts, and its name is not `but`. It counts if
-- no earlier line is an entry with the same name.
abbrev pub chosen_at : (List (List ℕ) → Bool) → List (List ℕ) → ℕ → ℕ → List ℕ → List ℕ → Option (List (List ℕ))
chosen_at test lines place id but line =
    option_and_then (only_if (λ entry. holds_beside id but entry && is_first_at test lines place entry)) (entry_of test line)
