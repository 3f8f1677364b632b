use Rattle.std.proofs.Common.{◌++◌}
use Rattle.pv_glob.proofs.Loops.{Mapping}
use Rattle.pv_glob.proofs.words.lengthened.Given as goal

abbrev pub invariant-loop-word : goal.invariant-loop-word
invariant-loop-word l = Mapping (λ word. word ++ l.more) l.fn.words l.word-items l.word-index
