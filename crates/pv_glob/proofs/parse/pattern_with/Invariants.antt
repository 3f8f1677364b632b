use Rattle.std.proofs.Common.{◌≡◌, drop, length, map}
use Rattle.std.specs.Result.{result_map_both}
use Rattle.pv_glob.specs.Braces.{joined}
use Rattle.pv_glob.specs.Parsing.{plains_of}
use Rattle.pv_glob.proofs.parse.pattern_with.Given as goal

abbrev pub invariant-loop-component : goal.invariant-loop-component
invariant-loop-component l =
    result_map_both (joined l.pattern) (λ f. f) (plains_of (length l.pattern) (map (λ s. s.now) (drop l.component-index l.components))) ≡ plains_of 1 (map (λ s. s.now) l.components)
