use Rattle.std.proofs.Common.{◌≡◌, map, take}
use Rattle.pv_sysusers.proofs.texts.slices.Given as goal

abbrev pub invariant-loop-line : goal.invariant-loop-line
invariant-loop-line l = map (λ s. s.now) l.slices.items ≡ map (λ line. line.items) (take l.line-index l.lines)
