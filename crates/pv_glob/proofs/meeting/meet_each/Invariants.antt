use Rattle.std.proofs.Common.{[], ◌∷◌, take}
use Rattle.pv_glob.specs.Meeting.{are_met}
use Rattle.pv_glob.specs.Words.{Finds}
use Rattle.pv_glob.proofs.meeting.meet_each.Given as goal

abbrev pub invariant-loop-plain : goal.invariant-loop-plain
invariant-loop-plain l = Finds (are_met (l.a ∷ []) l.a_below (take l.plain-index l.b) l.b_below) l.found
