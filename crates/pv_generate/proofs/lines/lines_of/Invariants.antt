use Rattle.std.proofs.Common.{◌≡◌, ◌<◌, ◌^◌}
use Rattle.pv_generate.specs.Drawing.{state_of}
use Rattle.pv_generate.specs.Lines.{lines_of}
use Rattle.pv_generate.proofs.lines.lines_of.Given as goal

abbrev pub invariant-loop-i : goal.invariant-loop-i
invariant-loop-i l = (l.text.items ≡ lines_of l.fn.seed l.i) × ((l.state ≡ state_of l.fn.seed l.i) × (l.state < 2 ^ 31))
