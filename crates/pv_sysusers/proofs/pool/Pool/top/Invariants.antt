use Rattle.std.proofs.Common.{◌≡◌, take}
use Rattle.std.specs.List.{list_any}
use Rattle.pv_sysusers.specs.Pools.{highest, is_between}
use Rattle.pv_sysusers.proofs.pool.Pool.top.Given as goal

abbrev pub invariant-loop-range : goal.invariant-loop-range
invariant-loop-range l = l.top ≡ highest (λ n. list_any (is_between n) (take l.range-index l.self.ranges.items)) l.fn.bound
