use Rattle.std.proofs.Common.{◌≡◌, ◌*◌, take}
use Rattle.pv_path.specs.Paths.{parent_of}
use Rattle.pv_steps.specs.Acting.{Acted}
use Rattle.pv_steps.proofs.ActingLaws.{well}
use Rattle.pv_walk.specs.Staging.{most_new}
use Rattle.pv_walk.specs.Preparing.{Preparing, IsPrepareStep}
use Rattle.pv_walk.proofs.PreparingLaws.{Parented, absent_parents}
use Rattle.pv_walk.proofs.preparing.put_parents.Given as goal

abbrev pub invariant-loop-name : goal.invariant-loop-name
invariant-loop-name g l = record {
  items : l.name-items ≡ parent_of l.path;
  place : l.place ≡ take l.name-index l.path;
  parented : Parented l.now l.path (g.T.Tree.state l.fn.tree) l.name-index (g.T.Tree.state l.tree);
  acted : Acted g.T.Tree (Preparing l.path (g.T.Tree.state l.fn.tree)) (IsPrepareStep l.path (g.T.Tree.state l.fn.tree)) (most_new * absent_parents l.path (g.T.Tree.state l.fn.tree) l.name-index) l.now l.fn.tree l.tree well;
}
