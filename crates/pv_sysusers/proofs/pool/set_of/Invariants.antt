use Rattle.std.proofs.Common.{◌≡◌, ℕ, ◌==◌, nat_eq, take}
use Rattle.std.specs.HashSet as set
use Rattle.std.specs.List.{list_any}
use Rattle.pv_sysusers.proofs.pool.set_of.Given as goal

abbrev pub invariant-loop-number : goal.invariant-loop-number
invariant-loop-number l = (n : ℕ) → set.contains nat_eq l.all n ≡ list_any (λ m. m == n) (take l.number-index l.numbers)
