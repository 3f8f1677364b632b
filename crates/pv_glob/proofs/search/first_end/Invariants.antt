use Rattle.std.proofs.Common.{take}
use Rattle.pv_glob.specs.Search.{FirstEnd}
use Rattle.pv_glob.proofs.search.first_end.Given as goal

abbrev pub invariant-loop-place : goal.invariant-loop-place
invariant-loop-place g l = FirstEnd (g.M.Moves.machine l.machine) l.found.items (take l.place-index l.level) l.first
