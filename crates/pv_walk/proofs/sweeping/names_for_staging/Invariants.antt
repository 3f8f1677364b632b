use Rattle.std.proofs.Common.{◌≡◌, map, take}
use Rattle.pv_path.specs.Names.{staging_name}
use Rattle.pv_walk.proofs.sweeping.names_for_staging.Given as goal

abbrev pub invariant-loop-name : goal.invariant-loop-name
invariant-loop-name l = l.names ≡ map staging_name (take l.name-index l.path)
