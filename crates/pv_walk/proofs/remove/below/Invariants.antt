use Rattle.std.proofs.Common.{◌++◌, ◌-◌, length, reverse}
use Rattle.std.specs.FinMap as fin
use Rattle.pv_walk.specs.Listing.{AreGathered}
use Rattle.pv_walk.proofs.ListingLaws.{Listing}
use Rattle.pv_walk.proofs.PostOrderLaws.{Falling}
use Rattle.pv_walk.proofs.remove.below.Given as goal

abbrev pub invariant-loop-next : goal.invariant-loop-next
invariant-loop-next g l = Listing (g.T.Tree.state l.tree) l.path l.listed.items l.work.items × AreGathered (l.listed.items ++ reverse l.work.items) × Falling l.listed.items l.work.items

abbrev pub decreases-loop-next : goal.decreases-loop-next
decreases-loop-next g l = length (fin.keys (g.T.Tree.state l.tree)) - length l.listed.items
