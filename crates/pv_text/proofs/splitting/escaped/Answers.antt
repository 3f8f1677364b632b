use Rattle.std.proofs.Common.{refl, sym}
use Rattle.pv_text.specs.Fields.{text_at}
use Rattle.pv_text.proofs.EscapeLaws.{good_anywhere}
use Rattle.pv_text.proofs.splitting.escaped.Goals as goal

pub returns-in-None-clause-checked : goal.returns-in-None-clause-checked
returns-in-None-clause-checked c = (refl, (c.requires.order, c.requires.within, good_anywhere 0 c.args.start 0 (text_at c.args.line.now (c.args.start, c.args.end)) (sym c.in-None.ensures)))
