use Rattle.std.proofs.Common.{reverse, ◌∙◌, ap}
use Rattle.pv_glob.specs.Braces.{rests_of}
use Rattle.pv_glob.specs.Reading.{completed}
use Rattle.pv_glob.proofs.BraceLaws.{element_step}
use Rattle.pv_glob.proofs.brace_reading.Reading.element.Goals as goal

pub returns : goal.returns
returns c = λ places. ap (λ ws. completed (reverse c.args.self.opened.items) ws (rests_of places)) c.in_ok-lengthened.ensures ∙ element_step (reverse c.args.self.opened.items) c.args.self.words c.args.element (rests_of places)
