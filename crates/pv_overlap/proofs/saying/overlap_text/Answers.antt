use Rattle.std.proofs.Common.{◌++◌, codes, refl}
use Rattle.pv_path.specs.Printing.{printed_path}
use Rattle.pv_text.proofs.Characters.{one_line-append, one_line-printed_path}
use Rattle.pv_overlap.proofs.saying.overlap_text.Goals as goal

pub returns-clause-line : goal.returns-clause-line
returns-clause-line c =
    let first = c.args.first.now in
    let second = c.args.second.now in
    rw (
      c.in_ok-extend_from_slice-5.ensures.items,
      c.in_ok-extend_from_slice-4.ensures.items,
      c.in_ok-extend_from_slice-3.ensures.items,
      c.in_ok-extend_from_slice-2.ensures.items,
      c.in_ok-extend_from_slice.ensures.items,
      c.in_ok-text.ensures.items,
      c.deref.ensures.value,
      c.in_ok-path.ensures,
    )
    (one_line-append (codes "overlap " ++ first ++ codes " " ++ second ++ codes " at ") (printed_path c.args.path.now)
    (one_line-append (codes "overlap " ++ first ++ codes " " ++ second) (codes " at ")
    (one_line-append (codes "overlap " ++ first ++ codes " ") second
    (one_line-append (codes "overlap " ++ first) (codes " ")
    (one_line-append (codes "overlap ") first refl c.requires.first) refl) c.requires.second) refl)
    (one_line-printed_path c.args.path.now))
