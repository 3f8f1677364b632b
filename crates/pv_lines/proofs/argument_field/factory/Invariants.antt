use Prim.Native.Char.{code}
use Rattle.std.proofs.Common.{◌≡◌, ◌++◌, ◌∷◌, drop}
use Rattle.std.specs.Prelude.{codes}
use Rattle.std.specs.List.{flat_map}
use Rattle.pv_lines.proofs.argument_field.factory.Given as goal

abbrev pub invariant-loop-name : goal.invariant-loop-name
invariant-loop-name l = l.text.items ++ flat_map (λ name. code "/" ∷ name) (drop l.name-index l.name-items) ≡ codes "/usr/share/factory" ++ flat_map (λ name. code "/" ∷ name) l.name-items
