use Rattle.pv_table.proofs.SayingLaws.{one_line-place_text}
use Rattle.pv_sysusers.proofs.judging.judge.Goals as goal

pub push-requires : goal.push-requires
push-requires g c = record { line = rw (c.deref.ensures.value, c.in_ok-place_text-in-Refused.ensures) (one_line-place_text c.args.path.now c.in-Refused.place c.in-Refused.why) }
