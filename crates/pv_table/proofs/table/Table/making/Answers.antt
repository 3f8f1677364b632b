use Rattle.std.proofs.Common.{sym, ◌∙◌}
use Rattle.pv_table.proofs.KeepLaws.{find-at, find-missing}
use Rattle.pv_table.proofs.table.Table.making.Goals as goal

pub returns-in-Some : goal.returns-in-Some
returns-in-Some c = c.line.ensures ∙ sym (find-at c.args.self.now c.args.path.now c.in-Some.index (sym c.index_of.ensures ∙ c.in-Some.is))

pub returns-in-None : goal.returns-in-None
returns-in-None c = sym (find-missing c.args.self.now c.args.path.now (sym c.index_of.ensures ∙ c.in-None.is))
