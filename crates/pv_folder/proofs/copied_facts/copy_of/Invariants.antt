use Rattle.pv_folder.proofs.FactLaws.{AreCopied}
use Rattle.pv_folder.proofs.copied_facts.copy_of.Given as goal

abbrev pub invariant-loop-letter : goal.invariant-loop-letter
invariant-loop-letter l = AreCopied l.facts l.copy l.letter-index
