use Rattle.std.proofs.Common.{◌≡◌, None, drop}
use Rattle.pv_lines.specs.ArgumentField.{words_from}
use Rattle.pv_lines.specs.Words.{words_of}
use Rattle.pv_lines.proofs.attributes.words_in.Given as goal

abbrev pub invariant-loop-byte : goal.invariant-loop-byte
invariant-loop-byte l = words_of l.reader (drop l.byte-index l.text) ≡ words_from None None l.text
