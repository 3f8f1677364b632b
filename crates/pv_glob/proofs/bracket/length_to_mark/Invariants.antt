use Rattle.std.proofs.Common.{◌≡◌, ◌+◌, drop}
use Rattle.std.specs.Option.{option_map}
use Rattle.pv_glob.specs.Elements.{length_to_mark}
use Rattle.pv_glob.proofs.bracket.length_to_mark.Given as goal

abbrev pub invariant-loop-i : goal.invariant-loop-i
invariant-loop-i l = option_map (λ n. n + l.i) (length_to_mark l.mark (drop l.i l.text)) ≡ length_to_mark l.mark l.text
