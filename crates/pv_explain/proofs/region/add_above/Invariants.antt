use Rattle.std.proofs.Common.{◌≡◌, ◌++◌, ◌∷◌, [], take}
use Rattle.std.specs.List.{flat_map}
use Rattle.pv_walk.specs.Preparing.{parents_of}
use Rattle.pv_explain.proofs.region.add_above.Given as goal

abbrev pub invariant-loop-end : goal.invariant-loop-end
invariant-loop-end l = l.paths.items ≡ l.fn.paths.items ++ flat_map (λ end. [] ∷ end ∷ parents_of end) (take l.end-index l.ends)
