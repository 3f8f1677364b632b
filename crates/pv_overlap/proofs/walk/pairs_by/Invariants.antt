use Rattle.std.proofs.Common.{◌≡◌, length}
use Rattle.pv_overlap.specs.Answers.{SameAnswers}
use Rattle.pv_overlap.specs.Walk.{Walked}
use Rattle.pv_overlap.proofs.Asking.{AskedBelow}
use Rattle.pv_overlap.proofs.walk.pairs_by.Given as goal

abbrev pub invariant-loop-at : goal.invariant-loop-at
invariant-loop-at g l = record {
  walked : Walked (g.A.Asker.answers l.initial.asker) (length l.heads) l.order.items l.at l.opened.items l.found;
  asked : AskedBelow (g.A.Asker.asked l.initial.asker l.asker) l.order.items l.at;
  heads : g.A.Asker.heads l.asker ≡ g.A.Asker.heads l.initial.asker;
  answers : SameAnswers (g.A.Asker.answers l.initial.asker) (g.A.Asker.answers l.asker);
}
