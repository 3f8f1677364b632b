use Rattle.std.proofs.Common.{◌≡◌, ℕ, List, ◌++◌, drop, option_map}
use Rattle.pv_glob.specs.Written.{written}
use Rattle.pv_glob.proofs.literal_name.written.Given as goal

abbrev pub invariant-loop-element : goal.invariant-loop-element
invariant-loop-element l = option_map (λ (rest : List ℕ). l.bytes ++ rest) (written (drop l.element-index l.element-items)) ≡ written l.fn.component
