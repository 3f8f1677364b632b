use Rattle.std.proofs.Common.{◌≡◌, ◌++◌, map, take}
use Rattle.pv_overlap.specs.GivenMessages.{overlap_text}
use Rattle.pv_overlap.proofs.saying.say_overlaps.Given as goal

abbrev pub invariant-loop-pair : goal.invariant-loop-pair
invariant-loop-pair l = l.messages ≡ l.initial.messages ++ map (overlap_text l.lines) (take l.pair-index l.pairs)
