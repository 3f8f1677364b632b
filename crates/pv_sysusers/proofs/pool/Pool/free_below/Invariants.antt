use Rattle.std.proofs.Common.{◌≡◌}
use Rattle.pv_sysusers.specs.Pools.{highest}
use Rattle.pv_sysusers.proofs.Highest.{is_left}
use Rattle.pv_sysusers.proofs.pool.Pool.free_below.Given as goal

abbrev pub invariant-loop-n : goal.invariant-loop-n
invariant-loop-n l = highest (is_left l.self l.users l.groups) l.bound ≡ highest (is_left l.self l.users l.groups) l.fn.bound

abbrev pub decreases-loop-n : goal.decreases-loop-n
decreases-loop-n l = l.bound
