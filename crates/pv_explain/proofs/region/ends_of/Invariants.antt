use Rattle.std.proofs.Common.{◌≡◌, ◌∷◌, map, take}
use Rattle.pv_explain.proofs.region.ends_of.Given as goal

abbrev pub invariant-loop-copy : goal.invariant-loop-copy
invariant-loop-copy l = l.ends.items ≡ l.path ∷ map (λ copy. copy.from) (take l.copy-index l.copies)
