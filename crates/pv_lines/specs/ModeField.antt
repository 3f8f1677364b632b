-- The fields Mode, User, Group and Age (tmpfiles.d(5), "Mode", "User, Group" and "Age").
use Prim.Native.Char.{code}
use Rattle.std.specs.Prelude.{ℕ, Bool, true, false, not, ◌&&◌, ◌==◌, nat_le, List, [], ◌∷◌, length, Option, Some, None, option_map, Result, Ok, if◌then◌else◌}
use Rattle.std.specs.Char.{is_digit}
use Rattle.std.specs.List.{list_all}
use Rattle.std.specs.Str.Parse.{digits_value}
use Rattle.pv_acl.specs.Entries.{id_or_name}
use Rattle.pv_age.specs.Ages.{age_of}
use Rattle.pv_age.specs.declared.age.Age.{Age}
use Rattle.pv_path.specs.Results.{◌>>=◌, in_words, or_fault}
use Rattle.pv_lines.specs.declared.line_fault.LineFault.{LineFault}
use Rattle.pv_lines.specs.declared.line_fault.LineFault.TheVariants as fault
use Rattle.pv_lines.specs.declared.line.LineId.{LineId}
use Rattle.pv_lines.specs.declared.line.LineMode.{LineMode}
use Rattle.pv_lines.specs.declared.types.Row.{Row}

-- What a field spells. If it is omitted, nothing.
abbrev pub where_given : {A : Type 0} → (List ℕ → Result A LineFault) → Option (List ℕ) → Result (Option A) LineFault
where_given read None = Ok None
where_given read (Some text) = read text >>= (λ x. Ok (Some x))

-- ---- Mode

-- Whether a text is one to five octal digits with a value of at most 07777.
abbrev pub is_mode_text : List ℕ → Bool
is_mode_text text =
    nat_le 1 (length text) && nat_le (length text) 5 && list_all (λ b. is_digit b 8) text
    && nat_le (digits_value 8 text) 0o7777

-- The mode that a text spells. The prefixes `~` and `:` may come first in any order, each at most once. The first two
-- arguments say which of them came already.
abbrev pub mode_after : Bool → Bool → List ℕ → Option LineMode
mode_after masked new_only [] = None
mode_after masked new_only (b ∷ text) =
    if b == code "~" && not masked then mode_after true new_only text
    else if b == code ":" && not new_only then mode_after masked true text
    else if is_mode_text (b ∷ text) then Some (record { value = digits_value 8 (b ∷ text); masked = masked; new_only = new_only })
    else None

-- The mode of the field, or the fault BadMode.
abbrev pub mode_of : Option (List ℕ) → Result (Option LineMode) LineFault
mode_of field = where_given (λ text. or_fault fault.BadMode (mode_after false false text)) field

-- ---- User and Group

-- A text without the prefix `:`, and whether it had this prefix.
abbrev pub without_colon : List ℕ → List ℕ × Bool
without_colon [] = ([], false)
without_colon (b ∷ text) = if b == code ":" then (text, true) else (b ∷ text, false)

-- The owner that a text spells, which may begin with the prefix `:`. It is an ID, or a name that is looked up.
abbrev pub owner_in : (List ℕ → Option ℕ) → List ℕ → Option LineId
owner_in id_named text =
    option_map (λ id. record { id = id; new_only = (without_colon text).1 }) (id_or_name id_named (without_colon text).0)

-- The owner of the field, or the fault that the user or group is unknown.
abbrev pub owner_of : LineFault → (List ℕ → Option ℕ) → Option (List ℕ) → Result (Option LineId) LineFault
owner_of unknown id_named field = where_given (λ text. or_fault unknown (owner_in id_named text)) field

-- ---- Age

-- The age of the field, or its fault. A type that has no age ignores the field.
abbrev pub line_age_of : Row → Option (List ℕ) → Result (Option Age) LineFault
line_age_of row field = if row.ages then where_given (λ text. in_words (λ f. fault.Age f) (age_of text)) field else Ok None
