use Rattle.std.proofs.Common.{take}
use Rattle.pv_glob.specs.Search.{Noted}
use Rattle.pv_glob.proofs.search.note_moves.Given as goal

abbrev pub invariant-loop-step : goal.invariant-loop-step
invariant-loop-step l = Noted l.initial.found.items l.initial.next.items l.word (take l.step-index l.moves) l.found.items l.next.items
