use Rattle.std.proofs.Common.{◌≡◌, ◌-◌, ◌∷◌, [], replicate, Some, None}
use Rattle.pv_glob.proofs.search.start.Given as goal

abbrev pub invariant-loop : goal.invariant-loop
invariant-loop l = l.found.items ≡ Some [] ∷ replicate (l.counter - 1) None
