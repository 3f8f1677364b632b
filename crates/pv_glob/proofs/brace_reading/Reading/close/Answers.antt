use Rattle.std.proofs.Common.{rules}
use Rattle.pv_glob.specs.Braces.{rests_of}
use Rattle.pv_glob.proofs.BraceLaws.{beyond_means, close_means, some_made, some_together}
use Rattle.pv_glob.proofs.brace_reading.Reading.close.Goals as goal

pub returns-then-len-most-clause-beyond : goal.returns-then-len-most-clause-beyond
returns-then-len-most-clause-beyond c = λ places. beyond_means c.args.most c.args.self.opened.items c.pop.new.self.items c.in-Some.pair c.args.self.words c.in_ok-done.done places (search rules) (search rules) (search rules)

pub invariant_of-result : goal.invariant_of-result
invariant_of-result c = record { some = some_made c.in-Some.pair.before c.in_ok-done.done _ (search rules) c.in-Some.pair.some (some_together c.in-Some.pair.done c.args.self.words c.in_ok-done.done (search rules) c.args.self.some) }

pub returns-clause-read : goal.returns-clause-read
returns-clause-read c = λ places. close_means c.args.self.opened.items c.pop.new.self.items c.in-Some.pair c.args.self.words c.in_ok-done.done _ (rests_of places) (search rules) (search rules) (search rules)
