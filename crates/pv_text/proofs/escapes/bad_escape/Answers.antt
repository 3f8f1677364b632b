use Rattle.std.proofs.Common.{sym}
use Rattle.pv_text.proofs.EscapeLaws.{bad_turn}
use Rattle.pv_text.proofs.escapes.bad_escape.Goals as goal

pub loop-rest-preserved : goal.loop-rest-preserved
loop-rest-preserved c =
    bad_turn c.args.text.now c.loop-rest.rest.now c.args.at c.in-Some.field-0-0 c.in-Some.taken c.in-len1-up.len_at_least c.loop-rest.invariant.0 c.loop-rest.invariant.1 (sym c.in-Some.ensures.value) c.in-Some.ensures.within
