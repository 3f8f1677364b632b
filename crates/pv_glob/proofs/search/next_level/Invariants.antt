use Rattle.std.proofs.Common.{◌≡◌, ◌+◌, take}
use Rattle.pv_glob.specs.Search.{Asked}
use Rattle.pv_glob.proofs.search.next_level.Given as goal

abbrev pub invariant-loop-place : goal.invariant-loop-place
invariant-loop-place g l = record {
  asked : Asked (g.M.Moves.machine l.initial.machine) l.initial.found.items l.level (take l.place-index l.level) l.found.items l.next.items;
  same : g.M.Moves.machine l.machine ≡ g.M.Moves.machine l.initial.machine;
  cost : g.M.Moves.questions l.machine + l.place-index ≡ g.M.Moves.questions l.initial.machine;
}
