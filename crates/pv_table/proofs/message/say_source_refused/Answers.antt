use Rattle.std.proofs.Common.{codes, refl}
use Rattle.pv_text.proofs.Characters.{one_line-append}
use Rattle.pv_table.specs.Saying.{place_text}
use Rattle.pv_table.proofs.SayingLaws.{one_line-place_text}
use Rattle.pv_table.proofs.message.say_source_refused.Goals as goal

pub push_at-requires : goal.push_at-requires
push_at-requires c =
    record {
      line = rw (c.deref.ensures.value, c.in_ok-source_text.ensures)
          (one_line-append (codes "source ") (place_text c.args.path.now c.args.count c.args.why) refl (one_line-place_text c.args.path.now c.args.count c.args.why));
    }
