-- Requests of which all names, IDs and texts are allowed (sysusers.d(5), "Name", "ID", "GECOS", "Home Directory",
-- "Shell").
use Rattle.std.specs.Prelude.{◌≡◌, ℕ, Bool, true, not, ◌&&◌, List, Option, Some, None}
use Rattle.pv_acl.specs.NamedEntries.{is_id}
use Rattle.pv_path.specs.Paths.{Path, has_staging}
use Rattle.pv_requests.specs.Names.{is_account_name, is_comment, is_place}
use Rattle.pv_requests.specs.Numbers.{is_account_place}
use Rattle.pv_requests.specs.declared.request.GroupId.{GroupId}
use Rattle.pv_requests.specs.declared.request.GroupId.TheVariants as group
use Rattle.pv_requests.specs.declared.request.Primary.{Primary}
use Rattle.pv_requests.specs.declared.request.Primary.TheVariants as primary
use Rattle.pv_requests.specs.declared.request.Request.{Request}
use Rattle.pv_requests.specs.declared.request.Request.TheVariants as request
use Rattle.pv_requests.specs.declared.request.UserId.{UserId}
use Rattle.pv_requests.specs.declared.request.UserId.TheVariants as user

-- The number, if one is given, is an ID.
abbrev pub is_any_id : Option ℕ → Bool
is_any_id None = true
is_any_id (Some n) = is_id n

-- A primary group is allowed: its number is an ID, or its name is one that a group may have.
abbrev pub is_allowed_primary : Primary → Bool
is_allowed_primary (primary.Gid n) = is_id n
is_allowed_primary (primary.Name name) = is_account_name name

-- A path whose object may give an account its IDs. It is not the root, `/etc` or an account file, and none of its
-- names is a staging name.
abbrev pub is_allowed_path : Path → Bool
is_allowed_path path = not (is_account_place path) && not (has_staging path)

-- The source of a UID is allowed: its number is an ID, its path may give IDs, and its primary group is allowed.
abbrev pub is_allowed_user : UserId → Bool
is_allowed_user user.Auto = true
is_allowed_user (user.Number n) = is_id n
is_allowed_user (user.Path path) = is_allowed_path path
is_allowed_user (user.Primary uid group) = is_any_id uid && is_allowed_primary group

-- The source of a GID is allowed: its number is an ID, or its path may give IDs.
abbrev pub is_allowed_group : GroupId → Bool
is_allowed_group group.Auto = true
is_allowed_group (group.Number n) = is_id n
is_allowed_group (group.Path path) = is_allowed_path path

-- An account may have this GECOS field, home directory and shell.
abbrev pub are_allowed_texts : Option (List ℕ) → Option (List ℕ) → Option (List ℕ) → Bool
are_allowed_texts gecos home shell = is_comment gecos && is_place home && is_place shell

-- A request of which each part is allowed. The range of an `r` line always is.
abbrev pub is_allowed : Request → Bool
is_allowed (request.User name id locked gecos home shell place) = is_account_name name && (is_allowed_user id && are_allowed_texts gecos home shell)
is_allowed (request.Group name id place) = is_account_name name && is_allowed_group id
is_allowed (request.Member user group place) = is_account_name user && is_account_name group
is_allowed (request.Range first last place) = true

abbrev pub IsAllowed : Request → Type 0
IsAllowed request = is_allowed request ≡ true
