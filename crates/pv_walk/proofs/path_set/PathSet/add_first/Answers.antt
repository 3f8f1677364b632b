use Rattle.pv_walk.proofs.PathSetLaws.{added_order}
use Rattle.pv_walk.proofs.path_set.PathSet.add_first.Goals as goal

pub invariant_of-self-2 : goal.invariant_of-self-2
invariant_of-self-2 c = added_order c.self.inside.paths.items _ c.args.path c.self.invariant (rw c.self.view_is c.requires.first) c.in_ok-push.ensures.items
