-- The numbers of new users (sysusers.d(5), "u"). Which number is chosen is this project's own.
use Rattle.std.specs.Prelude.{ℕ, Bool, not, ◌&&◌, ◌||◌, ◌==◌, List, [], ◌∷◌, ◌++◌, Option, Some, None, is_some, unwrap_or, if◌then◌else◌}
use Rattle.pv_accounts.specs.InUse.{Ids, id_of, is_held, is_held_beside}
use Rattle.pv_sysusers.specs.Groups.{Choice, in_use_message}
use Rattle.pv_sysusers.specs.Pools.{free_number}
use Rattle.pv_sysusers.specs.declared.needs.Account.{Account}
use Rattle.pv_sysusers.specs.declared.needs.Main.{Main}
use Rattle.pv_sysusers.specs.declared.needs.Main.TheVariants as main
use Rattle.pv_sysusers.specs.declared.users.NewUser.{NewUser}

-- Whether a user may get a number: no user has it, and no group of another name has it.
abbrev pub is_free_for : Ids → Ids → List ℕ → ℕ → Bool
is_free_for users groups name n = not (is_held users n || is_held_beside groups n name)

-- The number of the group of the user's name, if it is not 0 and the user may get it. Otherwise the highest free one
-- of the pool.
abbrev pub group_or_free : (ℕ → Bool) → Ids → Ids → List ℕ → Option ℕ
group_or_free pooled users groups name = by (id_of groups name)
  where
    by : Option ℕ → Option ℕ
    by (Some n) = if not (n == 0) && is_free_for users groups name n then Some n else free_number pooled users groups
    by None = free_number pooled users groups

-- The number of a new user. If a line fixes one and the user may get it, it is this one. Otherwise it is chosen by
-- `group_or_free`, with a message if a line fixes one.
abbrev pub user_choice : (ℕ → Bool) → Ids → Ids → Account → Choice
user_choice pooled users groups account = by account.uid
  where
    by : Option ℕ → Choice
    by None = record { number = group_or_free pooled users groups account.name; new_messages = [] }
    by (Some n) =
        if is_free_for users groups account.name n then record { number = Some n; new_messages = [] }
        else record { number = group_or_free pooled users groups account.name; new_messages = in_use_message account.place n account.name ∷ [] }

-- The number of the primary group, which was decided before.
abbrev pub gid_of : Ids → List ℕ → Main → ℕ
gid_of groups name main.Own = unwrap_or (id_of groups name) 0
gid_of groups name (main.Gid n) = n
gid_of groups name (main.Named group) = unwrap_or (id_of groups group) 0

-- The new users, the messages, and the user for whom no number is left, if there is one.
pub record NewUsers : Type 0 where
  pub made : List NewUser
  pub new_messages : List (List ℕ)
  pub lacking : Option (List ℕ)

-- There are no more users.
abbrev pub no_users : NewUsers
no_users = record { made = []; new_messages = []; lacking = None }

-- A user, followed by others.
abbrev pub user_first : NewUser → List (List ℕ) → NewUsers → NewUsers
user_first user new_messages rest = record { made = user ∷ rest.made; new_messages = new_messages ++ rest.new_messages; lacking = rest.lacking }

-- A new user with his UID and GID.
abbrev pub new_user : Ids → Account → ℕ → NewUser
new_user groups account n = record { account = account; uid = n; gid = gid_of groups account.name account.main }

-- What follows from a choice for a user. If no number is left, nothing more is decided.
abbrev pub user_chosen : Ids → Account → Choice → (ℕ → NewUsers) → NewUsers
user_chosen groups account choice rest = by choice.number
  where
    by : Option ℕ → NewUsers
    by (Some n) = user_first (new_user groups account n) choice.new_messages (rest n)
    by None = record { made = []; new_messages = choice.new_messages; lacking = Some account.name }

-- The users that lines need are decided in order. A user who exists stays as he is.
abbrev pub decided_users : (ℕ → Bool) → Ids → Ids → List Account → NewUsers
decided_users pooled groups users [] = no_users
decided_users pooled groups users (account ∷ accounts) =
    if is_some (id_of users account.name) then decided_users pooled groups users accounts
    else user_chosen groups account (user_choice pooled users groups account)
    (λ n. decided_users pooled groups (users ++ (account.name, n) ∷ []) accounts)
