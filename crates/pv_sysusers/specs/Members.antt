-- The lines of an account file whose entries have members, with the index of the entry of each name (group(5),
-- gshadow(5)).
use Rattle.std.specs.Prelude.{◌≡◌, ℕ, suc, Bool, List, [], ◌∷◌, map, Option, Some, None, if◌then◌else◌}
use Rattle.std.specs.List.{list_all}
use Rattle.std.specs.Borrow.{Bor}
use Rattle.std.specs.Map.{lookup}
use Rattle.std.specs.Option.{option_map}
use Rattle.std.specs.Str.{bytes_eq}
use Rattle.pv_accounts.specs.Edits.{text_of}
use Rattle.pv_accounts.specs.Files.{lines_of}
use Rattle.pv_accounts.specs.Kinds.{is_entry_named}
use Rattle.pv_requests.specs.Names.{is_account_name}
use Rattle.pv_sysusers.specs.declared.members.MemberLines.{MemberLines}

-- The group and the user of a borrowed pair.
abbrev pub pair_of : Bor (List ℕ) × Bor (List ℕ) → List ℕ × List ℕ
pair_of member = (member.0.now, member.1.now)

abbrev pub pairs_of : List (Bor (List ℕ) × Bor (List ℕ)) → List (List ℕ × List ℕ)
pairs_of members = map pair_of members

-- Whether each user has a name that a user may have.
abbrev pub are_accounts : List (Bor (List ℕ) × Bor (List ℕ)) → Bool
are_accounts members = list_all (λ member. is_account_name member.1.now) members

-- The index of the first line that is an entry with this name.
abbrev pub place_of : (List (List ℕ) → Bool) → List ℕ → List (List ℕ) → Option ℕ
place_of test name [] = None
place_of test name (line ∷ lines) = if is_entry_named test name line then Some 0 else option_map suc (place_of test name lines)

-- The lines that are held, and the index that is kept for a name.
abbrev pub lines_held : MemberLines → List (List ℕ)
lines_held held = map (λ line. line.items) held.lines.items

abbrev pub place_found : MemberLines → List ℕ → Option ℕ
place_found held name = lookup (λ k. bytes_eq name k.now) held.places.entries

-- The index that is kept for each name is that of its first entry.
abbrev pub IsPlaced : (List (List ℕ) → Bool) → MemberLines → Type 0
IsPlaced test held = (name : List ℕ) → place_found held name ≡ place_of test name (lines_held held)

-- The text of the lines has just these lines. So no line has a line end in it.
abbrev pub AreLines : List (List ℕ) → Type 0
AreLines lines = lines_of (text_of lines) ≡ lines
