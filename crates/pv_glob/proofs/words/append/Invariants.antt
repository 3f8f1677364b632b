use Rattle.std.proofs.Common.{◌≡◌, ◌++◌, take}
use Rattle.pv_glob.proofs.words.append.Given as goal

abbrev pub invariant-loop-element : goal.invariant-loop-element
invariant-loop-element l = l.word ≡ l.fn.word ++ take l.element-index l.more
