use Rattle.std.proofs.Common.{◌≡◌, ◌++◌, [], ◌∷◌, take, true}
use Rattle.std.specs.List.{list_all}
use Rattle.pv_walk.specs.Removal.{is_one_of}
use Rattle.pv_walk.proofs.whole_subtrees.are_children_in.Given as goal

abbrev pub invariant-loop-name : goal.invariant-loop-name
invariant-loop-name l = list_all (λ n. is_one_of l.whole (l.path ++ n ∷ [])) (take l.name-index l.names) ≡ true
