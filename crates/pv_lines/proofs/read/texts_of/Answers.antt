use Rattle.std.proofs.Common.{◌≡◌, ℕ, List, length, Bor, None, option_map, rules, sym, ap, ◌∙◌}
use Rattle.std.specs.Prelude.{slice_get}
use Rattle.pv_text.specs.Escapes.{unescaped}
use Rattle.pv_text.specs.Fields.{text_at}
use Rattle.pv_lines.proofs.Texts.{texts_end}
use Rattle.pv_lines.proofs.read.texts_of.Goals as goal

pub returns : goal.returns
returns c =
    let nothing : None ≡ option_map (text_at c.args.fields.now.line) (slice_get c.args.fields.now.spans c.len.result)
    = ap (option_map (λ (text : Bor (List ℕ)). text.now)) (sym c.in_default.is) ∙ c.field.ensures.value in
    let count : c.len.result ≡ length c.loop-raw.texts.items = search rules in
    texts_end (text_at c.args.fields.now.line) unescaped c.args.fields.now.spans c.loop-raw.texts.items (rw count at nothing) c.loop-raw.invariant
