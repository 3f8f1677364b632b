use Rattle.std.proofs.Common.{◌≡◌, map, take}
use Rattle.pv_glob.specs.declared.element.Element.TheVariants.{Byte}
use Rattle.pv_glob.proofs.plain.written.Given as goal

abbrev pub invariant-loop-byte : goal.invariant-loop-byte
invariant-loop-byte l = l.component ≡ map (λ b. Byte b) (take l.byte-index l.bytes)
