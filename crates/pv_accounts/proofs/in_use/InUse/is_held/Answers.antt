use Rattle.pv_accounts.proofs.Counting.{held_counted}
use Rattle.pv_accounts.proofs.in_use.InUse.is_held.Goals as goal

pub returns : goal.returns
returns c = rw c.count.ensures (held_counted c.args.self.now c.args.id)
