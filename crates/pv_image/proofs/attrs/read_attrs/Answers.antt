use Rattle.std.proofs.Common.{◌≡◌, ◌≢◌, true, false, List, ℕ, codes, map, subst, sym, ap, ◌∙◌}
use Rattle.std.proofs.lemmas.Result.{IfOk-weaker}
use Rattle.pv_image.specs.Spelling.{attr_text, attrs_text}
use Rattle.pv_image.specs.Reading.{AreAttrs, Reads, texts}
use Rattle.pv_image.proofs.AttrTexts.{attrs_reads}
use Rattle.pv_image.proofs.attrs.read_attrs.Goals as goal

pub returns : goal.returns
returns c =
    let text = c.args.text.now in
    let other : text ≢ codes "-" = λ e. let bad : true ≡ false = sym (c.is_dash.ensures.1 e) ∙ c.if-is_dash.false in cc in
    IfOk-weaker c.attrs_of.result (Reads (map attr_text) AreAttrs (texts c.as_slice.result.now)) (Reads attrs_text AreAttrs text)
    (λ o read.
    attrs_reads text other o (subst (λ (ts : List (List ℕ)). Reads (map attr_text) AreAttrs ts o) (ap texts c.as_slice.ensures.value ∙ c.in_ok-pieces.ensures) read))
    c.attrs_of.ensures
