use Rattle.std.proofs.Common.{◌≡◌, map, take}
use Rattle.pv_sysusers.specs.Texts.{group_line}
use Rattle.pv_sysusers.proofs.texts.group_lines.Given as goal

abbrev pub invariant-loop-group : goal.invariant-loop-group
invariant-loop-group l = map (λ line. line.items) l.lines.items ≡ map group_line (take l.group-index l.made)
