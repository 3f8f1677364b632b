use Rattle.std.proofs.Common.{◌≡◌, ◌++◌, map, take}
use Rattle.pv_overlap.specs.GivenMessages.{unrepeatable_text}
use Rattle.pv_overlap.proofs.saying.say_reasons.Given as goal

abbrev pub invariant-loop-found : goal.invariant-loop-found
invariant-loop-found l = l.messages ≡ l.initial.messages ++ map (unrepeatable_text l.lines) (take l.found-index l.list)
