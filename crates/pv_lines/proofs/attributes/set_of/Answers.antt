use Rattle.std.proofs.Common.{sym}
use Rattle.pv_lines.specs.ArgumentField.{set_of}
use Rattle.pv_lines.proofs.Letters.{set_step, set_end, set_of-lt}
use Rattle.pv_lines.proofs.attributes.set_of.Goals as goal

pub loop-letter-preserved : goal.loop-letter-preserved
loop-letter-preserved c =
    set_step c.args.letters.now c.loop-letter.letter-index c.loop-letter.set c.union-set.result c.in_ok-of.field-0 (set_of c.args.letters.now)
    c.loop-letter-test.true c.union-set.ensures c.in_ok-of.ensures c.loop-letter.invariant

pub returns-clause-value : goal.returns-clause-value
returns-clause-value c = set_end c.args.letters.now c.loop-letter.letter-index c.loop-letter.set (set_of c.args.letters.now) c.loop-letter-test.false c.loop-letter.invariant

pub returns-clause-few : goal.returns-clause-few
returns-clause-few c = set_of-lt c.args.letters.now c.loop-letter.set (sym (returns-clause-value c))
