use Rattle.std.proofs.Common.{◌≡◌, length}
use Rattle.pv_lines.specs.TypeField.{stand_once}
use Rattle.pv_lines.proofs.type_field.stand_once.Given as goal

abbrev pub invariant-loop-rest : goal.invariant-loop-rest
invariant-loop-rest l = stand_once l.rest ≡ stand_once l.marks

abbrev pub decreases-loop-rest : goal.decreases-loop-rest
decreases-loop-rest l = length l.rest
