use Rattle.std.proofs.Common.{◌≡◌}
use Rattle.std.specs.Prelude.{sum, map}
use Rattle.pv_steps.specs.Acting.{Acted}
use Rattle.pv_steps.specs.Trees.{places}
use Rattle.pv_steps.proofs.ActingLaws.{well}
use Rattle.pv_table.specs.Created.{change_work}
use Rattle.pv_table.specs.Effects.{become}
use Rattle.pv_create.specs.Reached.{AdjustingInOrder, GivesReached}
use Rattle.pv_create.proofs.ReachedLaws.{each_at}
use Rattle.pv_create.proofs.reached.adjust_each.Given as goal

abbrev pub invariant-loop-at : goal.invariant-loop-at
invariant-loop-at g l = record {
  here : places (g.T.Tree.state l.tree) ≡ each_at (become l.now l.adjustment.sets) l.yielded (places (g.T.Tree.state l.fn.tree));
  acted : Acted g.T.Tree (AdjustingInOrder l.adjustment l.path (g.T.Tree.state l.fn.tree)) (GivesReached l.adjustment l.path (g.T.Tree.state l.fn.tree))
      (sum (map (λ q. change_work l.adjustment.sets (places (g.T.Tree.state l.fn.tree) q)) l.yielded)) l.now l.fn.tree l.tree well;
}
