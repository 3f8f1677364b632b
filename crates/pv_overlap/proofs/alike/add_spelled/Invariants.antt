use Rattle.std.proofs.Common.{◌≡◌, ◌++◌, ◌∷◌, map, take}
use Rattle.pv_overlap.specs.Alike.{byte_for}
use Rattle.pv_overlap.proofs.alike.add_spelled.Given as goal

abbrev pub invariant-loop-element : goal.invariant-loop-element
invariant-loop-element l = l.text.items ≡ l.fn.text.items ++ 47 ∷ map byte_for (take l.element-index l.component)
