use Rattle.std.proofs.Common.{◌≡◌, map, take}
use Rattle.pv_glob.specs.Words.{rank}
use Rattle.pv_glob.proofs.search.spelled.Given as goal

abbrev pub invariant-loop-place : goal.invariant-loop-place
invariant-loop-place l = map rank l.bytes ≡ take l.place-index l.place-items
