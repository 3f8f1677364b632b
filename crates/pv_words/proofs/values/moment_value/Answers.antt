-- A text in UTF-8 is read, and no other.
use Rattle.std.proofs.Common.{◌∙◌, sym, ap}
use Rattle.pv_words.specs.Values.{timestamp_value}
use Rattle.pv_words.proofs.ValueLaws.{moment-other, moment-text}
use Rattle.pv_words.proofs.values.moment_value.Goals as goal

pub returns-in-Ok : goal.returns-in-Ok
returns-in-Ok c =
    let text = c.in-Ok.ensures.cases in
    c.timestamp_value.ensures ∙ ap timestamp_value text.0 ∙ sym (moment-text c.args.text.now text.1)

pub returns-in-Err : goal.returns-in-Err
returns-in-Err c = sym (moment-other c.args.text.now c.in-Err.ensures.cases.0)
