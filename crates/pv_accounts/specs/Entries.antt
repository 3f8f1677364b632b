-- The lines of account files that are entries (passwd(5), group(5), shadow(5), gshadow(5)).
use Rattle.std.specs.Prelude.{◌≡◌, ℕ, Bool, false, not, ◌&&◌, ◌==◌, List, [], ◌∷◌, Option, Some, None, is_some, if◌then◌else◌}
use Rattle.std.specs.List.{slice_split}
use Rattle.pv_acl.specs.Spelling.{decimal_id}
use Rattle.pv_accounts.specs.Bytes.{colon, plus, minus, number_sign}

-- The fields of a line, which are separated by colons.
abbrev pub fields_of : List ℕ → List (List ℕ)
fields_of line = slice_split (λ b. b == colon) line

-- There are at least two pieces.
abbrev pub HasMore : List (List ℕ) → Type 0
HasMore pieces = (a : List ℕ) × ((b : List ℕ) × ((rest : List (List ℕ)) × (pieces ≡ a ∷ b ∷ rest)))

-- Whether an entry may have this name: it is not empty, and does not begin with `+`, `-` or `#`.
abbrev pub is_entry_name : List ℕ → Bool
is_entry_name [] = false
is_entry_name (b ∷ bs) = not (b == plus) && not (b == minus) && not (b == number_sign)

-- Whether a text is a decimal ID: a number from 0 to 4294967294 without leading zeros.
abbrev pub is_decimal_id : List ℕ → Bool
is_decimal_id text = is_some (decimal_id text)

-- Whether some fields are an entry of /etc/passwd: seven fields, of which the UID and the GID are decimal IDs.
abbrev pub is_passwd : List (List ℕ) → Bool
is_passwd (name ∷ password ∷ uid ∷ gid ∷ gecos ∷ home ∷ shell ∷ []) = is_entry_name name && is_decimal_id uid && is_decimal_id gid
is_passwd fields = false

-- Whether some fields are an entry of /etc/group: four fields, of which the GID is a decimal ID.
abbrev pub is_group : List (List ℕ) → Bool
is_group (name ∷ password ∷ gid ∷ members ∷ []) = is_entry_name name && is_decimal_id gid
is_group fields = false

-- Whether some fields are an entry of /etc/shadow: nine fields.
abbrev pub is_shadow : List (List ℕ) → Bool
is_shadow (name ∷ password ∷ changed ∷ least ∷ most ∷ warn ∷ inactive ∷ expire ∷ reserved ∷ []) = is_entry_name name
is_shadow fields = false

-- Whether some fields are an entry of /etc/gshadow: four fields.
abbrev pub is_gshadow : List (List ℕ) → Bool
is_gshadow (name ∷ password ∷ administrators ∷ members ∷ []) = is_entry_name name
is_gshadow fields = false

-- The fields of a line, if the test says that they are an entry.
abbrev pub entry_of : (List (List ℕ) → Bool) → List ℕ → Option (List (List ℕ))
entry_of test line = if test (fields_of line) then Some (fields_of line) else None
