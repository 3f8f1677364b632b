use Rattle.std.proofs.Common.{sym}
use Rattle.pv_table.proofs.KeepLaws.{find-glob}
use Rattle.pv_table.proofs.table.Table.like.Goals as goal

pub returns-in-Glob : goal.returns-in-Glob
returns-in-Glob c = sym (find-glob c.args.self.now c.args.line.now c.in-Glob.field-0 c.in-Glob.is)
