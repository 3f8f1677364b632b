-- Whether two `u` lines ask for the same, whatever their locations are (sysusers.d(5)).
use Rattle.std.specs.Prelude.{ℕ, Bool, true, false, ◌&&◌, ◌==◌, List, Option, Some, None}
use Rattle.std.specs.Bool.{beq}
use Rattle.pv_path.specs.Names.{same_bytes}
use Rattle.pv_path.specs.Paths.{same_path}
use Rattle.pv_requests.specs.declared.request.Primary.{Primary}
use Rattle.pv_requests.specs.declared.request.Primary.TheVariants as primary
use Rattle.pv_requests.specs.declared.request.Request.{Request}
use Rattle.pv_requests.specs.declared.request.Request.TheVariants as request
use Rattle.pv_requests.specs.declared.request.UserId.{UserId}
use Rattle.pv_requests.specs.declared.request.UserId.TheVariants as user

-- Two texts are the same, or both are omitted.
abbrev pub same_text : Option (List ℕ) → Option (List ℕ) → Bool
same_text None None = true
same_text (Some a) (Some b) = same_bytes a b
same_text _ _ = false

-- Two numbers are the same, or both are omitted.
abbrev pub same_number : Option ℕ → Option ℕ → Bool
same_number None None = true
same_number (Some a) (Some b) = a == b
same_number _ _ = false

-- Two primary groups are the same. A number and a name never are.
abbrev pub same_primary : Primary → Primary → Bool
same_primary (primary.Gid a) (primary.Gid b) = a == b
same_primary (primary.Name a) (primary.Name b) = same_bytes a b
same_primary _ _ = false

-- Two UIDs come from the same: both from the program, from one number, from one path, or from one number with one
-- primary group.
abbrev pub same_user_id : UserId → UserId → Bool
same_user_id user.Auto user.Auto = true
same_user_id (user.Number a) (user.Number b) = a == b
same_user_id (user.Path a) (user.Path b) = same_path a b
same_user_id (user.Primary uid group) (user.Primary uid' group') = same_number uid uid' && same_primary group group'
same_user_id _ _ = false

-- Two `u` lines have the same name, the same source of the UID and the same texts, and both or neither have `!`. The
-- location does not count.
abbrev pub same_user : Request → Request → Bool
same_user (request.User name id locked gecos home shell place) (request.User name' id' locked' gecos' home' shell' place') =
    same_bytes name name' && same_user_id id id' && beq locked locked'
    && same_text gecos gecos' && same_text home home' && same_text shell shell'
same_user _ _ = false
