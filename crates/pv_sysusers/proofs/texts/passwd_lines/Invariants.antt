use Rattle.std.proofs.Common.{◌≡◌, map, take}
use Rattle.pv_sysusers.specs.Texts.{passwd_line}
use Rattle.pv_sysusers.proofs.texts.passwd_lines.Given as goal

abbrev pub invariant-loop-user : goal.invariant-loop-user
invariant-loop-user l = map (λ line. line.items) l.lines.items ≡ map passwd_line (take l.user-index l.made)
