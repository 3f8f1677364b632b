use Rattle.std.proofs.Common.{◌≡◌, ◌++◌, ◌∷◌, [], take}
use Rattle.std.specs.List.{flat_map}
use Rattle.pv_accounts.specs.Bytes.{line_end}
use Rattle.pv_accounts.proofs.edit.add_ended.Given as goal

abbrev pub invariant-loop-line : goal.invariant-loop-line
invariant-loop-line l = l.text.items ≡ l.fn.text.items ++ flat_map (λ line. line.now ++ line_end ∷ []) (take l.line-index l.lines)
