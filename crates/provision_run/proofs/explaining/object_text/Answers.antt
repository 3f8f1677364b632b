use Rattle.std.proofs.Common.{◌++◌, codes, refl}
use Rattle.pv_path.specs.Printing.{printed_path}
use Rattle.pv_text.proofs.Characters.{one_line-append, one_line-printed_path}
use Rattle.provision_run.proofs.explaining.object_text.Goals as goal

pub returns-clause-line : goal.returns-clause-line
returns-clause-line c =
    let path = printed_path c.args.path.now in
    let object = c.in_ok-object.object.items in
    rw (
      c.in_ok-extend_from_slice-3.ensures.items,
      c.in_ok-extend_from_slice-2.ensures.items,
      c.in_ok-extend_from_slice.ensures.items,
      c.in_ok-text.ensures.items,
      c.deref.ensures.value,
      c.deref-2.ensures.value,
      c.in_ok-path.ensures,
    )
    (one_line-append (codes "explain " ++ path ++ codes " is ") object
    (one_line-append (codes "explain " ++ path) (codes " is ") (one_line-append (codes "explain ") path refl (one_line-printed_path c.args.path.now)) refl)
    c.in_ok-object.ensures.line)
