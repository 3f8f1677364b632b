-- The new texts of the account files that a run of systemd-sysusers makes (sysusers.d(5), systemd-sysusers(8)).
use Rattle.std.specs.Prelude.{ℕ, Bool, List, [], ◌++◌, Option, Some, None, option_map, Result, Ok, Err}
use Rattle.std.specs.List.{flat_map}
use Rattle.pv_accounts.specs.Entries.{is_group, is_passwd}
use Rattle.pv_accounts.specs.InUse.{Ids, ids_of}
use Rattle.pv_requests.specs.declared.request.Request.{Request}
use Rattle.pv_text.specs.declared.place.Place.{Place}
use Rattle.pv_sysusers.specs.Groups.{NewGroups, decided_groups}
use Rattle.pv_sysusers.specs.Lines.{Line, counting, lines_from, duplicate_messages}
use Rattle.pv_sysusers.specs.Needs.{accounts_of, fixed_for, fixed_numbers, is_made, needs_of}
use Rattle.pv_sysusers.specs.Pools.{is_pooled, range_of}
use Rattle.pv_sysusers.specs.Texts.{group_text, gshadow_text, membership_of, passwd_text, shadow_text}
use Rattle.pv_sysusers.specs.Users.{NewUsers, decided_users}
use Rattle.pv_sysusers.specs.declared.needs.Account.{Account}
use Rattle.pv_sysusers.specs.declared.needs.Need.{Need}
use Rattle.pv_sysusers.specs.declared.path_ids.PathId.{PathId}
use Rattle.pv_sysusers.specs.declared.planned.Texts.{Texts}
use Rattle.pv_sysusers.specs.declared.users.NewUser.{NewUser}

-- The texts of the four account files. `/etc/gshadow` may be absent.
pub record AccountFiles : Type 0 where
  pub passwd : List ℕ
  pub group : List ℕ
  pub shadow : List ℕ
  pub gshadow : Option (List ℕ)

-- The new groups and users with their numbers, the messages, and the name for which no number is left, if there is
-- one.
pub record Numbers : Type 0 where
  pub groups : Ids
  pub users : List NewUser
  pub new_messages : List (List ℕ)
  pub lacking : Option (List ℕ)

-- New groups, and then new users.
abbrev pub with_users : NewGroups → NewUsers → Numbers
with_users groups users = record { groups = groups.made; users = users.made; new_messages = groups.new_messages ++ users.new_messages; lacking = users.lacking }

-- All groups are decided first, and then the users. If no number is left for a group, no user is decided.
abbrev pub numbers_or : NewGroups → Numbers → Option (List ℕ) → Numbers
numbers_or new whole None = whole
numbers_or new whole (Some name) = record { groups = new.made; users = []; new_messages = new.new_messages; lacking = Some name }

abbrev pub numbers_after : (ℕ → Bool) → Ids → Ids → List Account → NewGroups → Numbers
numbers_after pooled users groups accounts new =
    numbers_or new (with_users new (decided_users pooled (groups ++ new.made) users accounts)) new.lacking

-- The numbers of new groups and users, given what the lines need.
abbrev pub numbers_by : (ℕ → Bool) → (List ℕ → Option (ℕ × Place)) → Ids → Ids → List Need → List Account → Numbers
numbers_by pooled fixed users groups needs accounts = numbers_after pooled users groups accounts (decided_groups pooled users fixed groups needs)

-- The groups that lines need.
abbrev pub needs_by : Ids → List Line → List Need
needs_by users lines = flat_map (needs_of (is_made users lines)) lines

-- The users that lines need.
abbrev pub accounts_by : Ids → List Line → List Account
accounts_by users lines = flat_map (accounts_of (is_made users lines)) lines

-- Whether a number may be given to a user or a group for which no line fixes one.
abbrev pub pool_by : Ids → List Line → ℕ → Bool
pool_by users lines n = is_pooled (flat_map range_of lines) (fixed_numbers (needs_by users lines) (accounts_by users lines)) n

-- The numbers of a run, given the account files and the lines that count.
abbrev pub numbers_of : AccountFiles → List Line → Numbers
numbers_of files lines =
    let users : Ids = ids_of is_passwd files.passwd in
    numbers_by (pool_by users lines) (fixed_for (needs_by users lines)) users (ids_of is_group files.group) (needs_by users lines) (accounts_by users lines)

-- The texts of the account files with new groups, members and users.
abbrev pub texts_by : AccountFiles → List Need → List (List ℕ × List ℕ) → ℕ → Ids → List NewUser → Texts
texts_by files needs members day groups users = record {
  passwd = passwd_text users files.passwd;
  group = group_text groups members files.group;
  shadow = shadow_text day users files.shadow;
  gshadow = option_map (gshadow_text needs members) files.gshadow;
}

-- The texts of the account files for these numbers.
abbrev pub texts_of : AccountFiles → List Line → ℕ → Numbers → Texts
texts_of files lines day numbers =
    texts_by files (needs_by (ids_of is_passwd files.passwd) lines) (flat_map membership_of lines) day numbers.groups numbers.users

-- The plan of a run: its messages, and the new texts or the name for which no number is left.
pub record Planned : Type 0 where
  pub new_messages : List (List ℕ)
  pub texts : Result Texts (List ℕ)

-- The texts, or the name for which no number is left.
abbrev pub texts_or : Texts → Option (List ℕ) → Result Texts (List ℕ)
texts_or texts None = Ok texts
texts_or texts (Some name) = Err name

-- The plan for these numbers.
abbrev pub plan_by : AccountFiles → List Line → ℕ → Numbers → Planned
plan_by files lines day numbers = record { new_messages = numbers.new_messages; texts = texts_or (texts_of files lines day numbers) numbers.lacking }

-- The plan for the lines that count.
abbrev pub plan_of : AccountFiles → List Line → ℕ → Planned
plan_of files lines day = plan_by files lines day (numbers_of files lines)

-- The plan of a run, given its requests, the owners of the objects at their paths, the account files and the day. The
-- messages about duplicate lines come first.
abbrev pub planned : List Request → List (Option PathId) → AccountFiles → ℕ → Planned
planned requests taken files day = record {
  new_messages = duplicate_messages [] (lines_from taken 0 requests) ++ (plan_of files (counting [] (lines_from taken 0 requests)) day).new_messages;
  texts = (plan_of files (counting [] (lines_from taken 0 requests)) day).texts;
}
