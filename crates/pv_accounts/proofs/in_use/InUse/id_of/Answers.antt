use Rattle.pv_accounts.proofs.Counting.{found_in}
use Rattle.pv_accounts.proofs.in_use.InUse.id_of.Goals as goal

pub returns-clause-value : goal.returns-clause-value
returns-clause-value c = let e = found_in c.args.name.now c.self.inside.ids.entries in cc
