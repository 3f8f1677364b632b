-- Which names users and groups may have, and which texts an account (sysusers.d(5), "Name", "GECOS", "Home Directory"
-- and "Shell"; passwd(5)).
use Rattle.std.specs.Prelude.{ℕ, Bool, true, false, not, ◌&&◌, ◌||◌, ◌==◌, nat_le, List, [], ◌∷◌, length, Option, Some, None}
use Rattle.std.specs.List.{list_all}
use Rattle.pv_path.specs.Parsing.{begins_with_slash}

-- An ASCII letter, or `_`.
abbrev pub is_name_start : ℕ → Bool
is_name_start b = (nat_le 65 b && nat_le b 90) || (nat_le 97 b && nat_le b 122) || b == 95

-- An ASCII letter, a digit, `_` or `-`.
abbrev pub is_name_part : ℕ → Bool
is_name_part b = is_name_start b || (nat_le 48 b && nat_le b 57) || b == 45

-- A name that a user or a group may have: 1 to 31 letters, digits, `_` and `-`. The first one is a letter or `_`.
abbrev pub is_account_name : List ℕ → Bool
is_account_name [] = false
is_account_name (b ∷ name) = is_name_start b && list_all is_name_part name && nat_le (length name) 30

-- A byte of a text of an account: neither a colon nor a control byte.
abbrev pub is_text_byte : ℕ → Bool
is_text_byte b = nat_le 32 b && not (b == 58) && not (b == 127)

-- A GECOS field that an account may have: a text of such bytes. It may be omitted.
abbrev pub is_comment : Option (List ℕ) → Bool
is_comment None = true
is_comment (Some text) = list_all is_text_byte text

-- A home directory or a shell that an account may have: a text of such bytes that begins with a slash. It may be
-- omitted.
abbrev pub is_place : Option (List ℕ) → Bool
is_place None = true
is_place (Some text) = begins_with_slash text && list_all is_text_byte text
