use Rattle.std.proofs.Common.{refl, rules}
use Rattle.pv_glob.specs.Braces.{rests_of}
use Rattle.pv_glob.proofs.BraceLaws.{comma_means}
use Rattle.pv_glob.proofs.brace_reading.Reading.comma.Goals as goal

pub returns : goal.returns
returns c = λ places. comma_means c.args.self.opened.items c.pop.new.self.items c.push.new.self.items c.in-Some.pair _ c.args.self.words c.in_ok-empty_word.field-0 (rests_of places) (search rules) c.in_ok-push.ensures.items refl c.in_ok-done.ensures c.in_ok-empty_word.ensures
