use Rattle.std.proofs.Common.{◌≡◌, ◌++◌, take}
use Rattle.pv_text.proofs.messages.say_all.Given as goal

abbrev pub invariant-loop-i : goal.invariant-loop-i
invariant-loop-i l = l.messages ≡ l.fn.messages ++ take l.i l.new_messages
