use Rattle.std.proofs.Common.{◌≡◌, drop}
use Rattle.pv_sysusers.specs.Deciding.{GivesNext, pooled_by, users_by}
use Rattle.pv_sysusers.specs.Users.{decided_users}
use Rattle.pv_sysusers.proofs.UserLaws.{Underway}
use Rattle.pv_sysusers.proofs.users.decided_users.Given as goal

abbrev pub invariant-loop-account : goal.invariant-loop-account
invariant-loop-account l =
    (Underway (users_by l.wanted l.groups l.fn.users) (decided_users (pooled_by l.wanted.pool) l.groups l.users.all (drop l.account-index l.wanted.accounts.items)) l.users.made.items l.fn.new_messages l.new_messages)
    × GivesNext l.stock l.users.all l.groups × (l.stock.pool.now ≡ l.wanted.pool)
