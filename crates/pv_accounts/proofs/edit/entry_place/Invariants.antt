use Rattle.std.proofs.Common.{◌≡◌, ◌+◌, drop, map}
use Rattle.pv_accounts.specs.Edits.{entry_place}
use Rattle.pv_accounts.proofs.edit.entry_place.Given as goal

abbrev pub invariant-loop-at : goal.invariant-loop-at
invariant-loop-at l = l.at + entry_place (drop l.at (map (λ line. line.now) l.lines)) ≡ entry_place (map (λ line. line.now) l.lines)
