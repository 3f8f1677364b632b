-- Where the IDs of users and groups come from, and ranges of IDs (sysusers.d(5), "ID").
use Rattle.std.specs.Prelude.{ℕ, Bool, true, false, ◌&&◌, ◌||◌, ◌==◌, nat_le, List, [], ◌∷◌, codes, Option, Some, None, option_and_then, option_map, Result, Ok, Err, if◌then◌else◌}
use Rattle.std.specs.List.{slice_split}
use Rattle.pv_acl.specs.Numbers.{written_id}
use Rattle.pv_path.specs.Names.{same_bytes}
use Rattle.pv_path.specs.Parsing.{begins_with_slash, path_of}
use Rattle.pv_path.specs.Paths.{Path}
use Rattle.pv_path.specs.declared.path_fault.PathFault.{PathFault}
use Rattle.pv_requests.specs.declared.request.GroupId.{GroupId}
use Rattle.pv_requests.specs.declared.request.GroupId.TheVariants as group
use Rattle.pv_requests.specs.declared.request.Primary.{Primary}
use Rattle.pv_requests.specs.declared.request.Primary.TheVariants as primary
use Rattle.pv_requests.specs.declared.request.UserId.{UserId}
use Rattle.pv_requests.specs.declared.request.UserId.TheVariants as user
use Rattle.pv_requests.specs.FieldTexts.{is_dash}
use Rattle.pv_requests.specs.Names.{is_account_name}

-- The names of the account files in `/etc`.
abbrev pub is_account_file : List ℕ → Bool
is_account_file name =
    same_bytes name (codes "passwd") || same_bytes name (codes "group") || same_bytes name (codes "shadow") || same_bytes name (codes "gshadow")

-- The root, `/etc` and the account files. They give no IDs.
abbrev pub is_account_place : Path → Bool
is_account_place [] = true
is_account_place (directory ∷ []) = same_bytes directory (codes "etc")
is_account_place (directory ∷ file ∷ []) = same_bytes directory (codes "etc") && is_account_file file
is_account_place path = false

-- The path that a text spells, if its object may give IDs.
abbrev pub path_in : List ℕ → Option Path
path_in text = by (path_of text)
  where
    by : Result Path PathFault → Option Path
    by (Ok path) = if is_account_place path then None else Some path
    by (Err fault) = None

-- An ID that may be omitted: `-` or a number.
abbrev pub number_or_dash : List ℕ → Option (Option ℕ)
number_or_dash text = if is_dash text then Some None else option_map (λ n. Some n) (written_id text)

-- The primary group that a text spells: a number, or otherwise a name that a group may have.
abbrev pub primary_in : List ℕ → Option Primary
primary_in text = by (written_id text)
  where
    by : Option ℕ → Option Primary
    by (Some n) = Some (primary.Gid n)
    by None = if is_account_name text then Some (primary.Name text) else None

-- What `ID:GID` or `ID:GROUP` spells, given the texts before and after the colon. The ID may be `-`.
abbrev pub with_primary : List ℕ → List ℕ → Option UserId
with_primary first second =
    option_and_then (λ uid. option_map (λ group. user.Primary uid group) (primary_in second)) (number_or_dash first)

-- The ID of a `u` line: `-` or a number.
abbrev pub plain_user_id : List ℕ → Option UserId
plain_user_id text = if is_dash text then Some user.Auto else option_map (λ n. user.Number n) (written_id text)

-- The ID of a `u` line that is not a path, given the texts between its colons.
abbrev pub user_id_by : List (List ℕ) → Option UserId
user_id_by (text ∷ []) = plain_user_id text
user_id_by (first ∷ second ∷ []) = with_primary first second
user_id_by pieces = None

-- The ID of a `u` line: `-`, a number, a path, `ID:GID` or `ID:GROUP`.
abbrev pub user_id_in : List ℕ → Option UserId
user_id_in text =
    if begins_with_slash text then option_map (λ path. user.Path path) (path_in text) else user_id_by (slice_split (λ b. b == 58) text)

-- The ID of a `g` line: `-` or a number.
abbrev pub plain_group_id : List ℕ → Option GroupId
plain_group_id text = if is_dash text then Some group.Auto else option_map (λ n. group.Number n) (written_id text)

-- The ID of a `g` line: `-`, a number or a path.
abbrev pub group_id_in : List ℕ → Option GroupId
group_id_in text =
    if begins_with_slash text then option_map (λ path. group.Path path) (path_in text)
    else plain_group_id text

-- Two numbers, if the first one is not greater than the second one.
abbrev pub ordered : ℕ → ℕ → Option (ℕ × ℕ)
ordered first last = if nat_le first last then Some (first, last) else None

-- The range of an `r` line, given the texts between its dashes: one number, or two in order.
abbrev pub range_by : List (List ℕ) → Option (ℕ × ℕ)
range_by (text ∷ []) = option_map (λ n. (n, n)) (written_id text)
range_by (first ∷ last ∷ []) = option_and_then (λ first. option_and_then (λ last. ordered first last) (written_id last)) (written_id first)
range_by pieces = None

-- The range of an `r` line: `N` or `FROM-TO`.
abbrev pub range_in : List ℕ → Option (ℕ × ℕ)
range_in text = range_by (slice_split (λ b. b == 45) text)
