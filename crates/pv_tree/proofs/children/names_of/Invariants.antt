use Rattle.std.proofs.Common.{◌≡◌, map, take}
use Rattle.pv_tree.proofs.children.names_of.Given as goal

abbrev pub invariant-loop-i : goal.invariant-loop-i
invariant-loop-i l = l.names ≡ map (λ e. e.0) (take l.i l.entries.items)
