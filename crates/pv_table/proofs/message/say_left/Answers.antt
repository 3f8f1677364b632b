use Rattle.pv_table.proofs.SayingLaws.{one_line-left_text}
use Rattle.pv_table.proofs.message.say_left.Goals as goal

pub push_at-requires : goal.push_at-requires
push_at-requires c = record { line = rw (c.deref.ensures.value, c.in_ok-left_text.ensures) (one_line-left_text c.args.path.now c.args.kind) }
