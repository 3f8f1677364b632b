use Rattle.std.proofs.Common.{◌≡◌, ◌≢◌, ◌==◌, true, false, List, [], ℕ, length, codes, None, sym, ◌∙◌, subst}
use Rattle.std.proofs.lemmas.Bool.{eqb-true}
use Rattle.std.proofs.lemmas.List.{nil_from_length}
use Rattle.std.proofs.lemmas.Result.{IfOk-weaker}
use Rattle.base64.specs.GeneralPurpose.{encode_of}
use Rattle.base64.specs.Engines.{standard}
use Rattle.pv_image.specs.Spelling.{content_text}
use Rattle.pv_image.specs.Reading.{IsByteText, Reads}
use Rattle.pv_image.proofs.Contents.{content_reads, nothing_reads}
use Rattle.pv_image.proofs.payload.read_content.Goals as goal

pub returns : goal.returns
returns c =
    let text = c.args.text.now in
    let some : text ≢ [] = λ e. let bad : false ≡ true = subst (λ (t : List ℕ). false ≡ (length t == 0)) e c.if-is_empty.ensures in cc in
    let other : text ≢ codes "-" = λ e. let bad : true ≡ false = sym (c.is_dash.ensures.1 e) ∙ c.if-is_dash.false in cc in
    IfOk-weaker c.decode.result (Reads (encode_of standard) IsByteText text) (Reads content_text IsByteText text) (content_reads text some other) c.decode.ensures

pub returns-then-is_empty : goal.returns-then-is_empty
returns-then-is_empty c =
    let nothing : c.args.text.now ≡ [] = nil_from_length c.args.text.now (eqb-true _ _ (sym c.if-is_empty.ensures)) in
    subst (λ (t : List ℕ). Reads content_text IsByteText t None) (sym nothing) nothing_reads
