-- Account files with more entries or more members (passwd(5), group(5), shadow(5), gshadow(5)).
use Rattle.std.specs.Prelude.{ℕ, ◌+◌, Bool, true, false, not, ◌==◌, List, [], ◌∷◌, ◌++◌, if◌then◌else◌}
use Rattle.std.specs.List.{join_with_byte, list_all, list_any, slice_split}
use Rattle.std.specs.Option.{option_map_or}
use Rattle.std.specs.Str.{bytes_eq}
use Rattle.pv_accounts.specs.Bytes.{comma, line_end, plus}
use Rattle.pv_accounts.specs.Entries.{entry_of}
use Rattle.pv_accounts.specs.Files.{lines_of}
use Rattle.pv_accounts.specs.Kinds.{is_entry_named}

-- The text of some lines, with line ends between them.
abbrev pub text_of : List (List ℕ) → List ℕ
text_of lines = join_with_byte line_end lines

-- Whether a text has no line end.
abbrev pub lacks_end : List ℕ → Bool
lacks_end text = list_all (λ b. not (b == line_end)) text

-- Whether new entries come before this line: it begins with `+`, or it is the empty line after the last line end.
abbrev pub is_behind_new : Bool → List ℕ → Bool
is_behind_new is_last [] = is_last
is_behind_new is_last (b ∷ bs) = b == plus

-- Whether no line is left.
abbrev pub is_end : List (List ℕ) → Bool
is_end [] = true
is_end (line ∷ lines) = false

-- Some lines with more entries. The entries come before the first line that begins with `+`. If there is none, they
-- come at the end, and then each line has a line end. All other lines stay as they are.
abbrev pub with_entries : List (List ℕ) → List (List ℕ) → List (List ℕ)
with_entries entries [] = entries ++ [] ∷ []
with_entries entries (line ∷ lines) =
    if is_behind_new (is_end lines) line then entries ++ line ∷ lines else line ∷ with_entries entries lines

-- Some lines with one more entry.
abbrev pub with_entry : List ℕ → List (List ℕ) → List (List ℕ)
with_entry entry lines = with_entries (entry ∷ []) lines

-- The text of a file with more entries. If there are none, the file stays as it is.
abbrev pub appended : List (List ℕ) → List ℕ → List ℕ
appended [] file = file
appended (entry ∷ entries) file = text_of (with_entries (entry ∷ entries) (lines_of file))

-- The members of a group: the last of the four fields of its entry. A line that is not such an entry has none.
abbrev pub members_of : (List (List ℕ) → Bool) → List ℕ → List ℕ
members_of test line = option_map_or last_field (entry_of test line) []
  where
    last_field : List (List ℕ) → List ℕ
    last_field (name ∷ password ∷ gid ∷ members ∷ fields) = members
    last_field fields = []

-- Whether a user is one of some members, which are separated by commas.
abbrev pub is_member : List ℕ → List ℕ → Bool
is_member user [] = false
is_member user (b ∷ bs) = list_any (λ member. bytes_eq member user) (slice_split (λ c. c == comma) (b ∷ bs))

-- What is written after some members to add a user. A comma comes first, unless there are no members.
abbrev pub member_suffix : List ℕ → List ℕ → List ℕ
member_suffix user [] = user
member_suffix user (b ∷ bs) = comma ∷ user

-- The line of a group with a user added to its members. If he is already a member, the line stays as it is.
abbrev pub longer : (List (List ℕ) → Bool) → List ℕ → List ℕ → List ℕ
longer test user line =
    if is_member user (members_of test line) then line else line ++ member_suffix user (members_of test line)

-- Some lines with a user added to the members of the first entry of a group. All other lines stay as they are.
abbrev pub with_member : (List (List ℕ) → Bool) → List ℕ → List ℕ → List (List ℕ) → List (List ℕ)
with_member test group user [] = []
with_member test group user (line ∷ lines) =
    if is_entry_named test group line then longer test user line ∷ lines else line ∷ with_member test group user lines

-- How many lines come before a new entry.
abbrev pub entry_place : List (List ℕ) → ℕ
entry_place [] = 0
entry_place (line ∷ lines) = if is_behind_new (is_end lines) line then 0 else 1 + entry_place lines
