use Rattle.std.proofs.Common.{◌≡◌, ◌≤◌, ◌+◌, length}
use Rattle.pv_glob.specs.Search.{IsSearched, unfound}
use Rattle.pv_glob.proofs.search.least_word.Given as goal

abbrev pub invariant-loop-alloc : goal.invariant-loop-alloc
invariant-loop-alloc g l = record {
  searched : IsSearched (g.M.Moves.machine l.machine) l.found.items l.level.items;
  same : g.M.Moves.machine l.machine ≡ g.M.Moves.machine l.initial.machine;
  cost : (g.M.Moves.questions l.initial.machine + unfound l.found.items) + length l.level.items ≤ g.M.Moves.questions l.machine + l.places;
}

abbrev pub decreases-loop-alloc : goal.decreases-loop-alloc
decreases-loop-alloc g l = unfound l.found.items + length l.level.items
