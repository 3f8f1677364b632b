use Rattle.std.proofs.Common.{codes, refl}
use Rattle.pv_path.specs.Printing.{printed}
use Rattle.pv_text.proofs.Characters.{one_line-append, one_line-printed}
use Rattle.pv_sysusers.proofs.lines.say_duplicate.Goals as goal

pub push_at-requires : goal.push_at-requires
push_at-requires c =
    record {
      line = rw (c.deref.ensures.value, c.in_ok-add_printed.ensures, c.in_ok-text.ensures.items)
          (one_line-append (codes "duplicate line for ") (printed c.args.name.now) refl (one_line-printed c.args.name.now));
    }
