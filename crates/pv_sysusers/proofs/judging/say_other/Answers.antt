use Rattle.pv_table.proofs.SayingLaws.{one_line-left_text}
use Rattle.pv_sysusers.proofs.judging.say_other.Goals as goal

pub push-requires : goal.push-requires
push-requires g c = record { line = rw (c.deref.ensures.value, c.in_ok-left_text-in-Some.ensures) (one_line-left_text c.args.path.now c.in-Some.kind) }
