use Rattle.std.proofs.Common.{rules}
use Rattle.pv_glob.proofs.BraceLaws.{finish_means}
use Rattle.pv_glob.proofs.brace_reading.Reading.finish.Goals as goal

pub returns-then-is_empty-clause-value : goal.returns-then-is_empty-clause-value
returns-then-is_empty-clause-value c = finish_means c.args.self.opened.items c.args.self.words (search rules)
