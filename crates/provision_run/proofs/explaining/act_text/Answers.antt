use Rattle.std.proofs.Common.{◌++◌, codes, refl}
use Rattle.pv_path.specs.Printing.{printed_path}
use Rattle.pv_text.proofs.Characters.{one_line-append, one_line-printed_path}
use Rattle.provision_run.proofs.explaining.act_text.Goals as goal

pub returns-clause-line : goal.returns-clause-line
returns-clause-line c =
    let place = c.in_ok-place.place.items in
    let word = c.act_word.result.now in
    rw (
      c.in_ok-extend_from_slice-5.ensures.items,
      c.in_ok-extend_from_slice-4.ensures.items,
      c.in_ok-extend_from_slice-3.ensures.items,
      c.in_ok-extend_from_slice-2.ensures.items,
      c.in_ok-extend_from_slice.ensures.items,
      c.in_ok-text.ensures.items,
      c.deref.ensures.value,
      c.deref-2.ensures.value,
      c.in_ok-path.ensures,
    )
    (one_line-append (codes "explain " ++ place ++ codes " " ++ word ++ codes " ") (printed_path c.args.path.now)
    (one_line-append (codes "explain " ++ place ++ codes " " ++ word) (codes " ")
    (one_line-append (codes "explain " ++ place ++ codes " ") word
    (one_line-append (codes "explain " ++ place) (codes " ")
    (one_line-append (codes "explain ") place refl c.in_ok-place.ensures.line) refl) c.act_word.ensures.line) refl)
    (one_line-printed_path c.args.path.now))
