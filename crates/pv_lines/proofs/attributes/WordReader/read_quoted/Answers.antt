use Rattle.std.proofs.Common.{eq-eqb}
use Rattle.pv_lines.proofs.WordLaws.{quote_ends}
use Rattle.pv_lines.proofs.attributes.WordReader.read_quoted.Goals as goal

pub returns-then-byte-quote : goal.returns-then-byte-quote
returns-then-byte-quote c = quote_ends c.args.self.now c.args.quote c.args.byte c.requires (eq-eqb c.args.byte c.args.quote c.if-byte-quote.true)
