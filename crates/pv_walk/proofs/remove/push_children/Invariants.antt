use Rattle.std.proofs.Common.{◌≡◌, ◌++◌, [], ◌∷◌, map, take}
use Rattle.pv_walk.proofs.remove.push_children.Given as goal

abbrev pub invariant-loop-name : goal.invariant-loop-name
invariant-loop-name g l = l.work.items ≡ l.fn.work.items ++ map (λ n. l.path ++ n ∷ []) (take l.name-index l.name-items)
