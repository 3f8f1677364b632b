use Rattle.std.proofs.Common.{codes, refl}
use Rattle.pv_path.specs.Printing.{printed}
use Rattle.pv_text.proofs.Characters.{one_line-append, one_line-printed}
use Rattle.provision_run.proofs.accounting.lacking_text.Goals as goal

pub returns-clause-line : goal.returns-clause-line
returns-clause-line c =
    rw (c.in_ok-extend_from_slice.ensures.items, c.in_ok-text.ensures.items, c.deref.ensures.value, c.in_ok-printed.ensures)
    (one_line-append (codes "no free id for ") (printed c.args.name.now) refl (one_line-printed c.args.name.now))
