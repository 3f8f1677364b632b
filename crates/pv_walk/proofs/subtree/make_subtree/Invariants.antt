use Rattle.std.proofs.Common.{◌-◌, ◌≤◌, length}
use Rattle.pv_steps.specs.Acting.{Acted}
use Rattle.pv_steps.proofs.ActingLaws.{well}
use Rattle.pv_walk.specs.Copying.{GivesPart}
use Rattle.pv_walk.specs.Pieces.{cost_of, made_of}
use Rattle.pv_walk.specs.Stages.{Staging}
use Rattle.pv_walk.proofs.CopyingLaws.{Doing}
use Rattle.pv_walk.proofs.subtree.make_subtree.Given as goal

abbrev pub invariant-loop-piece : goal.invariant-loop-piece
invariant-loop-piece g l = record {
  here : Doing l.now l.path (g.T.Tree.state l.fn.tree) l.fn.pieces.items l.left.items (g.T.Tree.state l.tree);
  room : cost_of l.left.items ≤ cost_of l.fn.pieces.items;
  acted :
      Acted g.T.Tree (Staging l.path (made_of l.fn.pieces.items) (g.T.Tree.state l.fn.tree)) (GivesPart l.path (made_of l.fn.pieces.items)) (cost_of l.fn.pieces.items - cost_of l.left.items) l.now l.fn.tree l.tree well;
}

abbrev pub decreases-loop-piece : goal.decreases-loop-piece
decreases-loop-piece g l = length l.left.items
