use Rattle.std.proofs.Common.{◌≡◌, ◌++◌, [], ◌∷◌, map, take}
use Rattle.pv_walk.specs.declared.listing.Task.TheVariants.{Open}
use Rattle.pv_walk.proofs.listing.open_children.Given as goal

abbrev pub invariant-loop-name : goal.invariant-loop-name
invariant-loop-name g l = l.work.items ≡ l.fn.work.items ++ map (λ n. Open (l.rest ++ n ∷ [])) (take l.name-index l.name-items)
