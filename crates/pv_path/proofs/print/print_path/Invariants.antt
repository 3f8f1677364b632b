use Rattle.std.proofs.Common.{◌≡◌, ◌∷◌, take}
use Rattle.std.specs.List.{flat_map}
use Rattle.pv_path.specs.Printing.{printed}
use Rattle.pv_path.proofs.print.print_path.Given as goal

abbrev pub invariant-loop-name : goal.invariant-loop-name
invariant-loop-name l = l.text.items ≡ flat_map (λ n. 47 ∷ printed n) (take l.name-index l.name-items)
