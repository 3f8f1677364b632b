-- What the calls that plan say of their answers.
use Rattle.std.specs.Prelude.{◌≡◌, ℕ, List, Option, None, option_map, Result, Err}
use Rattle.pv_accounts.specs.InUse.{Ids}
use Rattle.pv_sysusers.specs.Deciding.{pooled_by}
use Rattle.pv_sysusers.specs.Lines.{Line}
use Rattle.pv_sysusers.specs.Needs.{fixed_for}
use Rattle.pv_sysusers.specs.Plans.{AccountFiles, Numbers, accounts_by, needs_by, numbers_by, pool_by}
use Rattle.pv_sysusers.specs.declared.plan_fault.PlanFault.{PlanFault}
use Rattle.pv_sysusers.specs.declared.plan_fault.PlanFault.TheVariants.{NoFreeId, Memory}
use Rattle.pv_sysusers.specs.declared.planned.AccountFiles.{AccountFiles as Slices}
use Rattle.pv_sysusers.specs.declared.planned.Texts.{Texts}
use Rattle.pv_sysusers.specs.declared.planned.Numbers.{Numbers as NewNumbers}
use Rattle.pv_sysusers.specs.declared.wanted.Wanted.{Wanted}

-- What lines ask for, as it was gathered.
pub record IsWanted (users : Ids) (lines : List Line) (wanted : Wanted) : Type 0 where
  pub needs : wanted.needs.items ≡ needs_by users lines
  pub accounts : wanted.accounts.items ≡ accounts_by users lines
  pub pool : (n : ℕ) → pooled_by wanted.pool n ≡ pool_by users lines n

-- The numbers for what lines ask for.
abbrev pub numbers_in : Wanted → Ids → Ids → Numbers
numbers_in wanted users groups = numbers_by (pooled_by wanted.pool) (fixed_for wanted.needs.items) users groups wanted.needs.items wanted.accounts.items

-- The account files of borrowed texts.
abbrev pub files_of : Slices → AccountFiles
files_of files = record { passwd = files.passwd.now; group = files.group.now; shadow = files.shadow.now; gshadow = option_map (λ file. file.now) files.gshadow }

-- The account files of these texts.
abbrev pub files_in : List ℕ → List ℕ → List ℕ → Option (List ℕ) → AccountFiles
files_in passwd group shadow gshadow = record { passwd = passwd; group = group; shadow = shadow; gshadow = gshadow }

-- The fault of a call is the name for which no number is left. If it is Memory, nothing is said.
abbrev pub Misses : Result Texts (List ℕ) → PlanFault → Type 0
Misses texts Memory = Unit {0}
Misses texts (NoFreeId name) = texts ≡ Err name

-- The numbers are those that were decided, and a number was left for each name.
pub record AreNumbers (decided : Numbers) (new : NewNumbers) : Type 0 where
  pub groups : new.groups.items ≡ decided.groups
  pub users : new.users.items ≡ decided.users
  pub whole : decided.lacking ≡ None
