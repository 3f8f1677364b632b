use Rattle.pv_table.proofs.SayingLaws.{one_line-place_text}
use Rattle.pv_table.proofs.message.say_refused.Goals as goal

pub push_at-requires : goal.push_at-requires
push_at-requires c = record { line = rw (c.deref.ensures.value, c.in_ok-place_text.ensures) (one_line-place_text c.args.path.now c.args.count c.args.why) }
