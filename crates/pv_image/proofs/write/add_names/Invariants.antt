use Rattle.std.proofs.Common.{◌≡◌, ◌∷◌, ◌++◌, take}
use Rattle.std.specs.List.{flat_map}
use Rattle.pv_path.specs.Printing.{printed}
use Rattle.pv_image.proofs.write.add_names.Given as goal

abbrev pub invariant-loop-name : goal.invariant-loop-name
invariant-loop-name l = l.output.items ≡ l.initial.output.items ++ flat_map (λ n. 47 ∷ printed n) (take l.name-index l.path)
