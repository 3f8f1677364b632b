-- The entries of an account file, and which names have an ID in it (passwd(5), group(5), shadow(5), gshadow(5)).
use Rattle.std.specs.Prelude.{ℕ, Bool, false, not, ◌&&◌, ◌==◌, List, [], ◌∷◌, Option, Some, None, filter, find, option_and_then, codes, if◌then◌else◌}
use Rattle.std.specs.List.{slice_split, filter_map}
use Rattle.std.specs.Option.{option_map}
use Rattle.std.specs.Str.{bytes_eq}
use Rattle.pv_acl.specs.Spelling.{decimal_id}
use Rattle.pv_accounts.specs.Bytes.{line_end}
use Rattle.pv_accounts.specs.Entries.{entry_of}

-- The lines of a file, which are separated by line ends. If the file ends with a line end, the last line is an empty
-- one.
abbrev pub lines_of : List ℕ → List (List ℕ)
lines_of file = slice_split (λ b. b == line_end) file

-- The lines that the test says are entries, as their fields and in order.
abbrev pub entries_of : (List (List ℕ) → Bool) → List (List ℕ) → List (List (List ℕ))
entries_of test lines = filter_map (entry_of test) lines

-- The name of an entry: its first field.
abbrev pub name_of : List (List ℕ) → List ℕ
name_of [] = []
name_of (name ∷ fields) = name

-- Whether an entry has this name.
abbrev pub has_name : List ℕ → List (List ℕ) → Bool
has_name name entry = bytes_eq (name_of entry) name

-- The first entry with this name, if there is one.
abbrev pub entry_named : (List (List ℕ) → Bool) → List ℕ → List ℕ → Option (List (List ℕ))
entry_named test file name = find (has_name name) (entries_of test (lines_of file))

-- The ID in the third field of an entry: the UID of a user, or the GID of a group.
abbrev pub id_in : List (List ℕ) → Option ℕ
id_in (name ∷ password ∷ id ∷ fields) = decimal_id id
id_in fields = None

-- The ID of the first entry with this name, if there is one.
abbrev pub id_named : (List (List ℕ) → Bool) → List ℕ → List ℕ → Option ℕ
id_named test file name = option_and_then id_in (entry_named test file name)

-- The entries that count: of those with one name only the first.
abbrev pub counting : List (List (List ℕ)) → List (List (List ℕ))
counting [] = []
counting (entry ∷ entries) = entry ∷ filter (λ other. not (has_name (name_of entry) other)) (counting entries)

-- Whether an entry has this ID, and its name is not `but`.
abbrev pub holds_beside : ℕ → List ℕ → List (List ℕ) → Bool
holds_beside id but entry = has_id (id_in entry) && not (has_name but entry)
  where
    has_id : Option ℕ → Bool
    has_id (Some n) = n == id
    has_id None = false

-- The name of the first entry that counts, has this ID, and whose name is not `but`.
abbrev pub holder_of : (List (List ℕ) → Bool) → List ℕ → ℕ → List ℕ → Option (List ℕ)
holder_of test file id but = option_map name_of (find (holds_beside id but) (counting (entries_of test (lines_of file))))

-- Whether a name is that of the superuser, `root`.
abbrev pub is_root : List ℕ → Bool
is_root name = bytes_eq name (codes "root")

-- The ID of a name in an account file. The ID of `root` is always 0, whatever the file says.
abbrev pub id_or_root : (List (List ℕ) → Bool) → List ℕ → List ℕ → Option ℕ
id_or_root test file name = if is_root name then Some 0 else id_named test file name
