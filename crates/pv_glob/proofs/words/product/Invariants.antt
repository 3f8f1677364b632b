use Rattle.std.proofs.Common.{◌≡◌, take}
use Rattle.pv_glob.specs.Braces.{joined}
use Rattle.pv_glob.proofs.words.product.Given as goal

abbrev pub invariant-loop-first : goal.invariant-loop-first
invariant-loop-first l = l.words ≡ joined (take l.first-index l.firsts) l.seconds
