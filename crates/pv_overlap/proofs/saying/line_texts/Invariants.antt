use Rattle.std.proofs.Common.{◌≡◌, map, take}
use Rattle.pv_overlap.specs.GivenMessages.{standing_text}
use Rattle.pv_overlap.proofs.saying.line_texts.Given as goal

abbrev pub invariant-loop-line : goal.invariant-loop-line
invariant-loop-line l = l.texts ≡ map standing_text (take l.line-index l.lines)
