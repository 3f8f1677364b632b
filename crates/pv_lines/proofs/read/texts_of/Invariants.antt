use Rattle.std.proofs.Common.{◌≡◌, ◌++◌, ◌-◌, drop, length, map}
use Rattle.pv_text.specs.Escapes.{unescaped}
use Rattle.pv_text.specs.Fields.{text_at}
use Rattle.pv_lines.proofs.read.texts_of.Given as goal

abbrev pub invariant-loop-raw : goal.invariant-loop-raw
invariant-loop-raw l =
    l.texts.items ++ map (λ span. unescaped (text_at l.fields.line span)) (drop (length l.texts.items) l.fields.spans)
    ≡ map (λ span. unescaped (text_at l.fields.line span)) l.fields.spans

abbrev pub decreases-loop-raw : goal.decreases-loop-raw
decreases-loop-raw l = length l.fields.spans - length l.texts.items
