use Rattle.std.proofs.Common.{take}
use Rattle.pv_glob.specs.Meeting.{are_met}
use Rattle.pv_glob.specs.Words.{Finds}
use Rattle.pv_glob.proofs.meeting.meet_all.Given as goal

abbrev pub invariant-loop-plain : goal.invariant-loop-plain
invariant-loop-plain l = Finds (are_met (take l.plain-index l.a) l.a_below l.b l.b_below) l.found
