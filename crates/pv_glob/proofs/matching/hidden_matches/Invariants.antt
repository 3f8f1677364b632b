use Rattle.std.proofs.Common.{◌≡◌, ◌∷◌, true, drop}
use Rattle.pv_glob.specs.Matching.{name_matches}
use Rattle.pv_glob.proofs.matching.hidden_matches.Given as goal

abbrev pub invariant-loop-i : goal.invariant-loop-i
invariant-loop-i l = name_matches (drop l.i l.elements) true (46 ∷ l.left) ≡ name_matches l.elements true (46 ∷ l.left)
