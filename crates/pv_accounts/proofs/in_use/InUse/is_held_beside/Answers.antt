use Rattle.std.proofs.Common.{sym, ◌∙◌}
use Rattle.pv_accounts.proofs.Counting.{beside_no, beside_yes}
use Rattle.pv_accounts.proofs.in_use.InUse.is_held_beside.Goals as goal

pub returns-then-is_own : goal.returns-then-is_own
returns-then-is_own c = rw c.count-count.ensures (beside_yes c.args.self.now c.args.id c.args.but.now c.is_own.ensures.apart (sym c.is_own.ensures.value ∙ c.if-is_own.true))

pub returns-else-is_own : goal.returns-else-is_own
returns-else-is_own c = rw c.count-count.ensures (beside_no c.args.self.now c.args.id c.args.but.now c.is_own.ensures.apart (sym c.is_own.ensures.value ∙ c.if-is_own.false))
