use Rattle.pv_steps.specs.Trees.{places}
use Rattle.pv_walk.specs.Nodes.{object_states_of}
use Rattle.pv_walk.specs.Copying.{copy_from, topped}
use Rattle.pv_walk.specs.Pieces.{names_at}
use Rattle.pv_walk.proofs.CopyListing.{depth_of, IsListed, hefts}
use Rattle.pv_walk.proofs.listing.pieces_of.Given as goal

abbrev pub invariant-loop-task : goal.invariant-loop-task
invariant-loop-task g l =
    IsListed (copy_from (topped l.top) l.source (object_states_of (places (g.T.Tree.state l.tree)))) (names_at l.source (g.T.Tree.state l.tree)) (depth_of (g.T.Tree.state l.tree)) l.listing.pieces.items l.listing.work.items

abbrev pub decreases-loop-task : goal.decreases-loop-task
decreases-loop-task g l =
    hefts (copy_from (topped l.top) l.source (object_states_of (places (g.T.Tree.state l.tree)))) (names_at l.source (g.T.Tree.state l.tree)) (depth_of (g.T.Tree.state l.tree)) l.listing.work.items
