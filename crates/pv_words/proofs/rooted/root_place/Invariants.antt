-- The option is none of the words so far, and stands where it does among those that are left.
use Rattle.std.proofs.Common.{◌≡◌, false, drop, map, string_bytes}
use Rattle.pv_words.specs.Rooted.{root_place}
use Rattle.pv_words.proofs.rooted.root_place.Given as goal

abbrev pub invariant-loop-i : goal.invariant-loop-i
invariant-loop-i l = root_place l.awaited l.i (map string_bytes (drop l.i l.words)) ≡ root_place false 0 (map string_bytes l.words)
