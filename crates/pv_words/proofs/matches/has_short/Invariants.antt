-- The words so far are neither short nor the end of the options.
use Rattle.std.proofs.Common.{◌≡◌, drop, map, string_bytes}
use Rattle.pv_words.specs.Reading.{has_short}
use Rattle.pv_words.proofs.matches.has_short.Given as goal

abbrev pub invariant-loop-word : goal.invariant-loop-word
invariant-loop-word l = has_short (map string_bytes l.words) ≡ has_short (map string_bytes (drop l.word-index l.words))
