use Rattle.std.proofs.Common.{ℕ, List, length}
use Rattle.pv_lines.specs.declared.line.Line.{Line}
use Rattle.pv_clean.specs.Judging.{AreJudged}
use Rattle.pv_clean.proofs.LevelLaws.{PlanningOf}
use Rattle.pv_clean.proofs.steps.clean_steps.Given as goal

abbrev pub invariant-loop-next : goal.invariant-loop-next
invariant-loop-next g l = (lines : List Line) (now : ℕ) → AreJudged lines now (g.T.Tree.state l.tree) l.fn.judged.items
    → PlanningOf lines now (g.T.Tree.state l.tree) l.fn.judged.items l.left.items l.levels.staying.items l.levels.going.items l.steps.items

abbrev pub decreases-loop-next : goal.decreases-loop-next
decreases-loop-next g l = length l.left.items
