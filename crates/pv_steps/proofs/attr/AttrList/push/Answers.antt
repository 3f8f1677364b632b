use Rattle.pv_steps.proofs.AttrPutting.{are_attrs-push}
use Rattle.pv_steps.proofs.attr.AttrList.push.Goals as goal

pub invariant_of-self-2 : goal.invariant_of-self-2
invariant_of-self-2 c =
    rw c.in_ok-push.ensures.ok (are_attrs-push c.self.inside.items c.args.item c.self.invariant c.requires.allowed (rw c.self.view_is c.requires.last))
