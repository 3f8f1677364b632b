use Rattle.std.proofs.Common.{◌≡◌, drop}
use Rattle.std.specs.Cmp.Lexicographic.{slice_cmp}
use Rattle.pv_glob.specs.Words.{word_cmp}
use Rattle.pv_glob.proofs.earlier.names_order.Given as goal

abbrev pub invariant-loop-i : goal.invariant-loop-i
invariant-loop-i l = slice_cmp word_cmp (drop l.i l.a) (drop l.i l.b) ≡ slice_cmp word_cmp l.a l.b
