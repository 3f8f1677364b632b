use Rattle.pv_folder.proofs.Listing.{is_ordered-push}
use Rattle.pv_folder.proofs.item.HostList.push.Goals as goal

pub invariant_of-self-2 : goal.invariant_of-self-2
invariant_of-self-2 c =
    rw c.in_ok-push.ensures.items (is_ordered-push c.self.inside.items.items c.args.item c.self.invariant (rw c.self.view_is c.requires))
