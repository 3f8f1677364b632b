use Rattle.std.proofs.Common.{◌≡◌, map, take}
use Rattle.pv_gshadow.specs.GroupPasswords.{new_group}
use Rattle.pv_sysusers.proofs.texts.gshadow_lines.Given as goal

abbrev pub invariant-loop-name : goal.invariant-loop-name
invariant-loop-name l = map (λ line. line.items) l.lines.items ≡ map new_group (map (λ n. n.now) (take l.name-index l.names))
