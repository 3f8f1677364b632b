use Rattle.pv_acl.proofs.Putting.{is_ordered-push}
use Rattle.pv_acl.proofs.list.NamedList.push.Goals as goal

pub invariant_of-self-2 : goal.invariant_of-self-2
invariant_of-self-2 c =
    rw c.in_ok-push.ensures.ok (is_ordered-push c.self.inside.items c.args.item c.self.invariant (rw c.self.view_is c.requires))
