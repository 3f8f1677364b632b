use Rattle.std.proofs.Common.{◌≡◌, Ok, length}
use Rattle.pv_text.specs.Specifiers.{expanded, joined}
use Rattle.pv_text.proofs.specifiers.expand.Given as goal

abbrev pub invariant-loop-rest : goal.invariant-loop-rest
invariant-loop-rest l = expanded l.tool l.facts l.text ≡ joined (Ok l.written.items) (expanded l.tool l.facts l.rest)

abbrev pub decreases-loop-rest : goal.decreases-loop-rest
decreases-loop-rest l = length l.rest
