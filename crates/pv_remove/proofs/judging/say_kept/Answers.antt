use Rattle.std.proofs.Common.{codes, refl}
use Rattle.pv_path.specs.Printing.{printed_path}
use Rattle.pv_text.proofs.Characters.{one_line-append, one_line-printed_path}
use Rattle.pv_remove.proofs.judging.say_kept.Goals as goal

pub push_at-requires : goal.push_at-requires
push_at-requires g c =
    record {
      line = rw (c.deref.ensures.value, c.in_ok-not_empty.ensures)
          (one_line-append (printed_path c.args.path.now) (codes " is not empty") (one_line-printed_path c.args.path.now) refl);
    }
