use Rattle.std.proofs.Common.{◌≡◌, ◌++◌, length}
use Rattle.pv_text.specs.Escapes.{HasGoodEscapes, unescaped}
use Rattle.pv_text.proofs.escapes.unescape.Given as goal

abbrev pub invariant-loop-rest : goal.invariant-loop-rest
invariant-loop-rest l = HasGoodEscapes l.rest × (l.text.items ++ unescaped l.rest ≡ unescaped l.raw)

abbrev pub decreases-loop-rest : goal.decreases-loop-rest
decreases-loop-rest l = length l.rest
