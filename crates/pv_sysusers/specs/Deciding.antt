-- What the calls that choose numbers say of their answers.
use Rattle.std.specs.Prelude.{◌≡◌, ℕ, Bool, not, ◌&&◌, ◌==◌, List, ◌++◌, Option, Some, None, Result, Ok, Err, nat_eq}
use Rattle.std.specs.HashSet as set
use Rattle.std.specs.List.{list_any}
use Rattle.std.specs.Map.{lookup}
use Rattle.std.specs.Option.{option_map}
use Rattle.std.specs.Str.{bytes_eq}
use Rattle.pv_accounts.specs.InUse.{Ids, is_held}
use Rattle.pv_text.specs.declared.place.Place.{Place}
use Rattle.pv_sysusers.specs.Groups.{Choice, NewGroups, decided_groups, group_choice}
use Rattle.pv_sysusers.specs.Needs.{fixed_for}
use Rattle.pv_sysusers.specs.Pools.{free_number, is_between}
use Rattle.pv_sysusers.specs.declared.plan_fault.PlanFault.{PlanFault}
use Rattle.pv_sysusers.specs.declared.plan_fault.PlanFault.TheVariants.{NoFreeId, Memory}
use Rattle.pv_sysusers.specs.declared.fixed.Fixed.{Fixed}
use Rattle.pv_sysusers.specs.declared.groups.Groups.{Groups}
use Rattle.pv_sysusers.specs.Users.{NewUsers, decided_users, user_choice}
use Rattle.pv_sysusers.specs.declared.needs.Account.{Account}
use Rattle.pv_sysusers.specs.declared.users.NewUser.{NewUser}
use Rattle.pv_sysusers.specs.declared.pool.Pool.{Pool}
use Rattle.pv_sysusers.specs.declared.pool.Stock.{Stock}
use Rattle.pv_sysusers.specs.declared.pool.Supply.{Supply}
use Rattle.pv_sysusers.specs.declared.wanted.Wanted.{Wanted}

-- Whether a pool may give this number.
abbrev pub pooled_by : Pool → ℕ → Bool
pooled_by pool n = list_any (is_between n) pool.ranges.items && not (n == 0) && not (n == 65535) && not (set.contains nat_eq pool.fixed n)

-- Whether a number of the ranges may be given, and no user and no group has it.
abbrev pub is_free_in : Pool → Ids → Ids → ℕ → Bool
is_free_in pool users groups n =
    not (n == 0) && not (n == 65535) && not (set.contains nat_eq pool.fixed n) && not (is_held users n) && not (is_held groups n)

-- The number that a pool gives next is its highest one that nobody has.
abbrev pub GivesNext : Stock → Ids → Ids → Type 0
GivesNext stock users groups = stock.next ≡ free_number (pooled_by stock.pool.now) users groups

-- The same for the pool from which a number is chosen.
abbrev pub IsStocked : Supply → Type 0
IsStocked supply = GivesNext supply.stock supply.users.now supply.groups.now

-- The number that a group gets, and the messages about it.
abbrev pub group_choice_by : Supply → List ℕ → Option (ℕ × Place) → Choice
group_choice_by supply name fixed = group_choice (pooled_by supply.stock.pool.now) supply.users.now supply.groups.now name fixed

-- The number that a user gets, and the messages about it.
abbrev pub user_choice_by : Supply → Account → Choice
user_choice_by supply account = user_choice (pooled_by supply.stock.pool.now) supply.users.now supply.groups.now account

-- The number that a line fixes for a name, with the location of the line.
abbrev pub fixed_by : Fixed → List ℕ → Option (ℕ × Place)
fixed_by fixed name = option_map (λ f. (f.0, f.1.now)) (lookup (λ k. bytes_eq name k.now) fixed.numbers.entries)

-- The groups that the lines ask for, with their numbers.
abbrev pub groups_by : Wanted → Ids → Ids → NewGroups
groups_by wanted users groups = decided_groups (pooled_by wanted.pool) users (fixed_for wanted.needs.items) groups wanted.needs.items

-- The users that the lines ask for, with their numbers.
abbrev pub users_by : Wanted → Ids → Ids → NewUsers
users_by wanted groups users = decided_users (pooled_by wanted.pool) groups users wanted.accounts.items

-- The new users are those that were decided, and a number was left for each.
pub record AreMade (decided : NewUsers) (users : List NewUser) : Type 0 where
  pub made : users ≡ decided.made
  pub whole : decided.lacking ≡ None

-- The new groups are those that were decided, and a number was left for each. They are added to the groups that
-- exist.
pub record IsMade (decided : NewGroups) (old : Ids) (groups : Groups) : Type 0 where
  pub made : groups.made.items ≡ decided.made
  pub all : groups.all ≡ old ++ decided.made
  pub whole : decided.lacking ≡ None

-- The fault of a call is the name for which no number is left. If it is Memory, nothing is said.
abbrev pub Lacks : Option (List ℕ) → PlanFault → Type 0
Lacks lacking Memory = Unit {0}
Lacks lacking (NoFreeId name) = lacking ≡ Some name

-- Something holds, unless memory ran out.
abbrev pub UnlessMemoryBy : PlanFault → Type 0 → Type 0
UnlessMemoryBy Memory P = Unit {0}
UnlessMemoryBy (NoFreeId name) P = P

abbrev pub UnlessMemory : {A : Type 0} → Result A PlanFault → Type 0 → Type 0
UnlessMemory (Ok x) P = P
UnlessMemory (Err fault) P = UnlessMemoryBy fault P
