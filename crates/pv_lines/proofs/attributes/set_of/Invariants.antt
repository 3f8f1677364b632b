use Rattle.std.proofs.Common.{◌≡◌, drop, option_map}
use Rattle.std.specs.Int.RustNames.{bit_or}
use Rattle.pv_lines.specs.ArgumentField.{set_of}
use Rattle.pv_lines.proofs.attributes.set_of.Given as goal

abbrev pub invariant-loop-letter : goal.invariant-loop-letter
invariant-loop-letter l = option_map (bit_or l.set) (set_of (drop l.letter-index l.letters)) ≡ set_of l.letters
