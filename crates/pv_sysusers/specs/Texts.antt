-- The texts of the account files with new entries and new members (passwd(5), group(5), shadow(5), gshadow(5)).
use Rattle.std.specs.Prelude.{ℕ, Bool, ◌||◌, ◌==◌, List, [], ◌∷◌, ◌++◌, codes, map, is_some, unwrap_or, if◌then◌else◌}
use Rattle.std.specs.Fmt.{decimal}
use Rattle.std.specs.List.{flat_map, list_any}
use Rattle.std.specs.Str.{bytes_eq}
use Rattle.pv_accounts.specs.Edits.{appended, text_of, with_member}
use Rattle.pv_accounts.specs.Entries.{is_group, is_gshadow, is_shadow}
use Rattle.pv_accounts.specs.Files.{entry_named, lines_of}
use Rattle.pv_accounts.specs.InUse.{Ids}
use Rattle.pv_gshadow.specs.GroupPasswords.{new_group}
use Rattle.pv_requests.specs.declared.request.Request.TheVariants as request
use Rattle.pv_sysusers.specs.Lines.{Line}
use Rattle.pv_sysusers.specs.declared.needs.Need.{Need}
use Rattle.pv_sysusers.specs.declared.users.NewUser.{NewUser}

-- The entry of a new group: `NAME:x:GID:`.
abbrev pub group_line : List ℕ × ℕ → List ℕ
group_line group = group.0 ++ codes ":x:" ++ decimal group.1 ++ codes ":"

-- The shell of a user for whom none is given: `/bin/sh` for UID 0, otherwise `/usr/sbin/nologin`.
abbrev pub own_shell : ℕ → List ℕ
own_shell uid = if uid == 0 then codes "/bin/sh" else codes "/usr/sbin/nologin"

-- The first four fields of the entry of a new user.
abbrev pub passwd_start : NewUser → List ℕ
passwd_start user = user.account.name ++ codes ":x:" ++ decimal user.uid ++ codes ":" ++ decimal user.gid ++ codes ":"

-- The entry of a new user: `NAME:x:UID:GID:GECOS:HOME:SHELL`. If no home directory is given, it is `/`.
abbrev pub passwd_line : NewUser → List ℕ
passwd_line user =
    passwd_start user ++ unwrap_or user.account.gecos [] ++ codes ":" ++ unwrap_or user.account.home (codes "/") ++ codes ":"
    ++ unwrap_or user.account.shell (own_shell user.uid)

-- The last fields of a shadow entry. A locked account (`u!`) has 1 as its day of expiry, so it has expired.
abbrev pub shadow_end : Bool → List ℕ
shadow_end locked = if locked then codes ":::::1:" else codes "::::::"

-- The shadow entry of a new user, who has no password: `NAME:!*:DAY::::::`.
abbrev pub shadow_line : ℕ → NewUser → List ℕ
shadow_line day user = user.account.name ++ codes ":!*:" ++ decimal day ++ shadow_end user.account.locked

-- The group and the user of an `m` line.
abbrev pub membership_of : Line → List (List ℕ × List ℕ)
membership_of (request.Member user group place, owners) = (group, user) ∷ []
membership_of _ = []

-- The text of a file after each user is added to the members of his group, in order.
abbrev pub with_memberships : (List (List ℕ) → Bool) → List (List ℕ × List ℕ) → List ℕ → List ℕ
with_memberships test [] file = file
with_memberships test (m ∷ ms) file = with_memberships test ms (text_of (with_member test m.0 m.1 (lines_of file)))

-- `/etc/group` with new groups and members.
abbrev pub group_text : Ids → List (List ℕ × List ℕ) → List ℕ → List ℕ
group_text made members file = with_memberships is_group members (appended (map group_line made) file)

-- `/etc/passwd` with new users.
abbrev pub passwd_text : List NewUser → List ℕ → List ℕ
passwd_text made file = appended (map passwd_line made) file

-- Whether a file has an entry with this name.
abbrev pub has_entry : (List (List ℕ) → Bool) → List ℕ → List ℕ → Bool
has_entry test file name = is_some (entry_named test file name)

-- The shadow entry of a new user, if he has none yet.
abbrev pub shadow_lines : ℕ → List ℕ → NewUser → List (List ℕ)
shadow_lines day file user = if has_entry is_shadow file user.account.name then [] else shadow_line day user ∷ []

-- `/etc/shadow` with the new users that have no entry there yet.
abbrev pub shadow_text : ℕ → List NewUser → List ℕ → List ℕ
shadow_text day made file = appended (flat_map (shadow_lines day file) made) file

-- Whether a group has an entry, or its name is among some names.
abbrev pub is_known : (List (List ℕ) → Bool) → List ℕ → List (List ℕ) → List ℕ → Bool
is_known test file names name = has_entry test file name || list_any (bytes_eq name) names

-- The names of needed groups that have no entry yet, each once, after some names.
abbrev pub without_entry : (List (List ℕ) → Bool) → List ℕ → List (List ℕ) → List Need → List (List ℕ)
without_entry test file names [] = names
without_entry test file names (need ∷ needs) =
    if is_known test file names need.name then without_entry test file names needs
    else without_entry test file (names ++ need.name ∷ []) needs

-- `/etc/gshadow` with entries for all needed groups, and with new members. A group that already exists in
-- `/etc/group` also gets an entry here if it has none.
abbrev pub gshadow_text : List Need → List (List ℕ × List ℕ) → List ℕ → List ℕ
gshadow_text needs members file =
    with_memberships is_gshadow members (appended (map new_group (without_entry is_gshadow file [] needs)) file)
