use Rattle.std.proofs.Common.{◌∙◌}
use Rattle.pv_text.proofs.FieldLaws.{past_hidden, past_other}
use Rattle.pv_text.proofs.splitting.closing.Goals as goal
use Rattle.pv_text.proofs.splitting.closing.Goals.{then-hidden, else-hidden+else-byte-quote}

pub loop-i-preserved : goal.loop-i-preserved
loop-i-preserved c =
    elim c.if-hidden.branch [
      | then-hidden w ↦ c.loop-i.invariant ∙ past_hidden c.args.quote c.args.at c.loop-i.i c.args.text.now c.loop-i.hidden c.if-hidden.hidden c.loop-i-test.true w.if-hidden.true w.hidden-is
      | else-hidden+else-byte-quote w ↦ c.loop-i.invariant ∙ past_other c.args.quote c.args.at c.loop-i.i c.args.text.now c.loop-i.hidden c.if-hidden.hidden c.loop-i-test.true w.if-hidden.false w.if-byte-quote.false w.hidden-is
    ]
