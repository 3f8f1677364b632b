use Rattle.std.proofs.Common.{◌≡◌, All, length, take}
use Rattle.pv_overlap.specs.Answers.{SameAnswers}
use Rattle.pv_overlap.specs.Walk.{Grown, HasAnswer, head_at, questions_at}
use Rattle.pv_overlap.proofs.walk.ask_open.Given as goal

abbrev pub invariant-loop-q : goal.invariant-loop-q
invariant-loop-q g l = record {
  grown : Grown (g.A.Asker.answers l.initial.asker) (length (g.A.Asker.heads l.initial.asker)) l.initial.found l.found;
  noted : All (λ q. HasAnswer (g.A.Asker.answers l.initial.asker) l.found (head_at l.order q).index (head_at l.order l.at).index) (take l.q-index l.opened);
  asked : g.A.Asker.asked l.initial.asker l.asker (questions_at l.order l.at (take l.q-index l.opened));
  heads : g.A.Asker.heads l.asker ≡ g.A.Asker.heads l.initial.asker;
  answers : SameAnswers (g.A.Asker.answers l.initial.asker) (g.A.Asker.answers l.asker);
}
