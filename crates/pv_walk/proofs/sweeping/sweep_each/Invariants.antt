use Rattle.std.proofs.Common.{◌≡◌, take}
use Rattle.pv_steps.specs.Trees.{places}
use Rattle.pv_steps.specs.Content.{Removes}
use Rattle.pv_steps.specs.Acting.{Acted}
use Rattle.pv_steps.proofs.ActingLaws.{well}
use Rattle.pv_walk.specs.Edits.{Pruned, all_taken}
use Rattle.pv_walk.specs.Staging.{staging_names, is_under_any, count_at_all}
use Rattle.pv_walk.proofs.SweepOrderLaws.{TookInTurn}
use Rattle.pv_walk.proofs.sweeping.sweep_each.Given as goal

abbrev pub invariant-loop-name : goal.invariant-loop-name
invariant-loop-name g l = record {
  place : l.place ≡ take l.name-index l.path;
  here : places (g.T.Tree.state l.tree) ≡ all_taken l.now (take l.name-index (staging_names l.path)) (places (g.T.Tree.state l.fn.tree));
  acted : Acted g.T.Tree (Pruned (is_under_any (staging_names l.path)) (g.T.Tree.state l.fn.tree)) (Removes (is_under_any (staging_names l.path))) (count_at_all (g.T.Tree.state l.fn.tree) (take l.name-index (staging_names l.path))) l.now l.fn.tree l.tree well;
  took : TookInTurn (g.T.Tree.state l.fn.tree) (take l.name-index (staging_names l.path)) (g.T.Tree.steps l.fn.tree) (g.T.Tree.steps l.tree);
}
