use Rattle.std.proofs.Common.{◌≡◌, ◌+◌, drop}
use Rattle.pv_text.specs.Fields.{closing}
use Rattle.pv_text.proofs.FieldLaws.{closing_left}
use Rattle.pv_text.proofs.splitting.closing.Given as goal

abbrev pub invariant-loop-i : goal.invariant-loop-i
invariant-loop-i l = closing l.quote l.at l.text ≡ closing_left l.quote l.hidden (l.at + l.i) (drop l.i l.text)
