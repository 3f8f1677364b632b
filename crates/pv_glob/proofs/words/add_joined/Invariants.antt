use Rattle.std.proofs.Common.{◌≡◌, ◌++◌, map, take}
use Rattle.pv_glob.proofs.words.add_joined.Given as goal

abbrev pub invariant-loop-second : goal.invariant-loop-second
invariant-loop-second l = l.words ≡ l.fn.words ++ map (λ second. l.first ++ second) (take l.second-index l.seconds)
