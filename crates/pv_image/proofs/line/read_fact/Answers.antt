use Rattle.std.proofs.Common.{List, ℕ, subst, ap, ◌∙◌}
use Rattle.std.proofs.lemmas.Result.{IfOk-weaker}
use Rattle.pv_image.specs.Spelling.{fact_text, fact_texts}
use Rattle.pv_image.specs.Images.{IsByteFact}
use Rattle.pv_image.specs.Reading.{Reads, texts}
use Rattle.pv_image.proofs.Cutting.{reads_joined}
use Rattle.pv_image.proofs.Facts.{fact_again}
use Rattle.pv_image.proofs.line.read_fact.Goals as goal

pub returns : goal.returns
returns c =
    let text = c.args.text.now in
    IfOk-weaker c.fact_of.result (Reads fact_texts IsByteFact (texts c.as_slice.result.now)) (Reads fact_text IsByteFact text)
    (λ o read.
    reads_joined 32 fact_texts IsByteFact text o fact_again
    (subst (λ (ts : List (List ℕ)). Reads fact_texts IsByteFact ts o) (ap texts c.as_slice.ensures.value ∙ c.in_ok-pieces.ensures) read))
    c.fact_of.ensures
