use Rattle.std.proofs.Common.{◌≡◌, ◌++◌, take}
use Rattle.std.specs.List.{flat_map}
use Rattle.pv_sysusers.specs.Needs.{account_numbers}
use Rattle.pv_sysusers.proofs.pool.add_user_numbers.Given as goal

abbrev pub invariant-loop-account : goal.invariant-loop-account
invariant-loop-account l = l.numbers.items ≡ l.fn.numbers.items ++ flat_map account_numbers (take l.account-index l.accounts)
