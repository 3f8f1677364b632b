use Rattle.std.proofs.Common.{List, ℕ, subst, ap, ◌∙◌}
use Rattle.std.proofs.lemmas.Result.{IfOk-weaker}
use Rattle.pv_image.specs.Spelling.{attr_text, attr_texts}
use Rattle.pv_image.specs.Reading.{IsAttr, Reads, texts}
use Rattle.pv_image.proofs.AttrTexts.{attr_again}
use Rattle.pv_image.proofs.Cutting.{reads_joined}
use Rattle.pv_image.proofs.attrs.read_attr.Goals as goal

pub returns : goal.returns
returns c =
    let text = c.args.text.now in
    IfOk-weaker c.attr_of.result (Reads attr_texts IsAttr (texts c.as_slice.result.now)) (Reads attr_text IsAttr text)
    (λ o read.
    reads_joined 61 attr_texts IsAttr text o attr_again
    (subst (λ (ts : List (List ℕ)). Reads attr_texts IsAttr ts o) (ap texts c.as_slice.ensures.value ∙ c.in_ok-pieces.ensures) read))
    c.attr_of.ensures
