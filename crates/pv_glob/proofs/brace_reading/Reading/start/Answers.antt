use Rattle.pv_glob.specs.Braces.{rests_of}
use Rattle.pv_glob.proofs.BraceLaws.{start_means}
use Rattle.pv_glob.proofs.brace_reading.Reading.start.Goals as goal

pub returns : goal.returns
returns c = λ places. start_means c.new.result.items c.in_ok-empty_word.field-0 (rests_of places) c.new.ensures.items c.in_ok-empty_word.ensures
