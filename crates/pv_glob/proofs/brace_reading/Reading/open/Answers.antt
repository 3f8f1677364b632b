use Rattle.std.proofs.Common.{refl}
use Rattle.pv_glob.specs.Braces.{rests_of}
use Rattle.pv_glob.proofs.BraceLaws.{open_means}
use Rattle.pv_glob.proofs.brace_reading.Reading.open.Goals as goal

pub returns : goal.returns
returns c = λ places. open_means c.args.self.opened.items c.push.new.self.items _ c.args.self.words c.in_ok-empty_word.field-0 (rests_of places) c.in_ok-push.ensures.items refl c.new-done.ensures c.in_ok-empty_word.ensures
