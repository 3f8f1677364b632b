-- The words so far have copies.
use Rattle.std.proofs.Common.{◌≡◌, ◌++◌, map, string_bytes, take}
use Rattle.pv_words.proofs.rooted.add_copies.Given as goal

abbrev pub invariant-loop-word : goal.invariant-loop-word
invariant-loop-word l = map string_bytes l.words.items ≡ map string_bytes l.initial.words.items ++ map string_bytes (take l.word-index l.more)
