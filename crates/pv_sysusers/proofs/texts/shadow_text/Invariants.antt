use Rattle.std.proofs.Common.{◌≡◌, map, take}
use Rattle.std.specs.List.{flat_map}
use Rattle.pv_sysusers.specs.Texts.{shadow_lines}
use Rattle.pv_sysusers.proofs.texts.shadow_text.Given as goal

abbrev pub invariant-loop-user : goal.invariant-loop-user
invariant-loop-user l = map (λ line. line.items) l.entries.items ≡ flat_map (shadow_lines l.day l.file) (take l.user-index l.made)
