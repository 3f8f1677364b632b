use Rattle.std.proofs.Common.{◌≡◌, map, take}
use Rattle.pv_glob.specs.declared.element.Element.TheVariants.{Byte}
use Rattle.pv_glob.proofs.plain.Plain.literal.Given as goal

abbrev pub invariant-loop-name : goal.invariant-loop-name
invariant-loop-name l = l.plain ≡ map (map (λ b. Byte b)) (take l.name-index l.name-items)
