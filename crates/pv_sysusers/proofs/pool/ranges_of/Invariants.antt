use Rattle.std.proofs.Common.{◌≡◌, take}
use Rattle.std.specs.List.{flat_map}
use Rattle.pv_sysusers.specs.Pools.{range_of}
use Rattle.pv_sysusers.specs.Shown.{shown}
use Rattle.pv_sysusers.proofs.pool.ranges_of.Given as goal

abbrev pub invariant-loop-line : goal.invariant-loop-line
invariant-loop-line l = l.ranges.items ≡ flat_map range_of (shown (take l.line-index l.lines))
