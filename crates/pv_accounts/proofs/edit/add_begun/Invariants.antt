use Rattle.std.proofs.Common.{◌≡◌, ◌++◌, ◌∷◌, take}
use Rattle.std.specs.List.{flat_map}
use Rattle.pv_accounts.specs.Bytes.{line_end}
use Rattle.pv_accounts.proofs.edit.add_begun.Given as goal

abbrev pub invariant-loop-next : goal.invariant-loop-next
invariant-loop-next l = l.text.items ≡ l.fn.text.items ++ flat_map (λ line. line_end ∷ line.now) (take l.next-index l.lines)
