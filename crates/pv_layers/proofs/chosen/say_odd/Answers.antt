use Rattle.std.proofs.Common.{codes, refl}
use Rattle.pv_path.specs.Printing.{printed_path}
use Rattle.pv_text.proofs.Characters.{one_line-append, one_line-printed_path}
use Rattle.pv_layers.proofs.chosen.say_odd.Goals as goal

pub push-requires : goal.push-requires
push-requires c =
    record {
      line = rw (c.deref.ensures.value, c.in_ok-extend_from_slice.ensures.items, c.in_ok-line.ensures)
          (one_line-append (printed_path c.args.path.now) (codes ": not a regular file") (one_line-printed_path c.args.path.now) refl);
    }
