-- The names and numbers that new users add to those in use.
use Rattle.std.specs.Prelude.{List, [], ◌∷◌}
use Rattle.pv_accounts.specs.InUse.{Ids}
use Rattle.pv_sysusers.specs.declared.users.NewUser.{NewUser}

-- The names and UIDs of new users.
abbrev pub ids_made : List NewUser → Ids
ids_made [] = []
ids_made (user ∷ users) = (user.account.name, user.uid) ∷ ids_made users
