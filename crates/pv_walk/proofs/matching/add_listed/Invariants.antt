use Rattle.std.proofs.Common.{◌≡◌, ◌++◌, [], ◌∷◌, map, take, filter}
use Rattle.pv_glob.specs.Matching.{matches}
use Rattle.pv_walk.proofs.matching.add_listed.Given as goal

abbrev pub invariant-loop-name : goal.invariant-loop-name
invariant-loop-name g l = l.found.items ≡ l.fn.found.items ++ map (λ n. l.path ++ n ∷ []) (filter (λ n. matches l.plain (n ∷ [])) (take l.name-index l.name-items))
