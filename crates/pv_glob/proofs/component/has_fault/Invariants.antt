use Rattle.std.proofs.Common.{◌≡◌, length}
use Rattle.std.specs.List.{list_any}
use Rattle.pv_glob.specs.Elements.{elements_of, has_fault_at}
use Rattle.pv_glob.proofs.component.has_fault.Given as goal

abbrev pub invariant-loop-rest : goal.invariant-loop-rest
invariant-loop-rest l = list_any (has_fault_at l.fault) (elements_of l.rest) ≡ list_any (has_fault_at l.fault) (elements_of l.component)

abbrev pub decreases-loop-rest : goal.decreases-loop-rest
decreases-loop-rest l = length l.rest
