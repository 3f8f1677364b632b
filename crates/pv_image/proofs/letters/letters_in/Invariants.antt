use Rattle.std.proofs.Common.{◌≡◌}
use Rattle.pv_image.proofs.LetterTexts.{found}
use Rattle.pv_image.proofs.letters.letters_in.Given as goal

abbrev pub invariant-loop-letter : goal.invariant-loop-letter
invariant-loop-letter l = l.set ≡ found l.text l.letter-index
