use Rattle.std.proofs.Common.{◌≡◌, map, take}
use Rattle.pv_glob.specs.declared.element.Element.TheVariants.{Byte}
use Rattle.pv_walk.proofs.matching.written.Given as goal

abbrev pub invariant-loop-element : goal.invariant-loop-element
invariant-loop-element l = map (λ b. Byte b) l.bytes.items ≡ take l.element-index l.element-items
