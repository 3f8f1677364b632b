use Rattle.std.proofs.Common.{◌≡◌, ℕ, ◌<◌, length, get_or, []}
use Rattle.pv_glob.specs.Meeting.{met_at, shares}
use Rattle.pv_glob.specs.Words.{IsFirst, word_cmp}
use Rattle.pv_glob.proofs.meeting.meet_plain.Given as goal

abbrev pub invariant-loop-i : goal.invariant-loop-i
invariant-loop-i l = record {
  count : length l.path ≡ l.i;
  firsts : (k : ℕ) → k < l.i → IsFirst word_cmp (shares (met_at l.a l.b k) (met_at l.b l.a k)) (get_or l.path k []);
}
