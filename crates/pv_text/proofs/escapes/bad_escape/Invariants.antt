use Rattle.std.proofs.Common.{◌≡◌, ◌+◌, ◌≤◌, ◌-◌, length}
use Rattle.pv_text.specs.Escapes.{bad_escape}
use Rattle.pv_text.proofs.escapes.bad_escape.Given as goal

abbrev pub invariant-loop-rest : goal.invariant-loop-rest
invariant-loop-rest l = (length l.rest ≤ length l.text) × (bad_escape 0 l.at l.text ≡ bad_escape 0 (l.at + (length l.text - length l.rest)) l.rest)

abbrev pub decreases-loop-rest : goal.decreases-loop-rest
decreases-loop-rest l = length l.rest
