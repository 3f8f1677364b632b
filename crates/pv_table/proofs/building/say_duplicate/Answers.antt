use Rattle.std.proofs.Common.{codes, refl}
use Rattle.pv_path.specs.Printing.{printed_path}
use Rattle.pv_text.proofs.Characters.{one_line-append, one_line-printed_path}
use Rattle.pv_table.proofs.building.say_duplicate.Goals as goal

pub push_at-requires : goal.push_at-requires
push_at-requires c =
    record {
      line = rw (c.deref-2.ensures.value, c.in_ok-extend_from_slice.ensures.items, c.in_ok-text.ensures.items, c.deref.ensures.value, c.in_ok-path.ensures)
          (one_line-append (codes "duplicate line for ") (printed_path c.in_ok-path_of.field-0) refl (one_line-printed_path c.in_ok-path_of.field-0));
    }
