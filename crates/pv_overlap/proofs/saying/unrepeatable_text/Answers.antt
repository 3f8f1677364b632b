use Rattle.std.proofs.Common.{◌++◌, codes, refl}
use Rattle.pv_text.proofs.Characters.{one_line-append}
use Rattle.pv_overlap.proofs.saying.unrepeatable_text.Goals as goal

pub returns-clause-line : goal.returns-clause-line
returns-clause-line c =
    let line = c.in_ok-line.line.items in
    rw (c.in_ok-extend_from_slice-3.ensures.items, c.in_ok-extend_from_slice-2.ensures.items, c.in_ok-extend_from_slice.ensures.items, c.in_ok-text.ensures.items, c.deref.ensures.value)
    (one_line-append (codes "unrepeatable " ++ line ++ codes " ") c.reason_text-reason.result.now
    (one_line-append (codes "unrepeatable " ++ line) (codes " ") (one_line-append (codes "unrepeatable ") line refl c.in_ok-line.ensures.line) refl)
    c.reason_text-reason.ensures.line)
