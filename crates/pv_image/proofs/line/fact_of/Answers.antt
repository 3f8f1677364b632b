use Rattle.std.proofs.Common.{List, ℕ, subst}
use Rattle.std.specs.Prelude.{IfOk}
use Rattle.pv_image.specs.Images.{IsByteFact}
use Rattle.pv_image.specs.Spelling.{fact_texts}
use Rattle.pv_image.specs.Reading.{Reads}
use Rattle.pv_image.proofs.Paths.{three_texts_of}
use Rattle.pv_image.proofs.line.fact_of.Goals as goal

pub returns-in-len3 : goal.returns-in-len3
returns-in-len3 c =
    subst (λ (ts : List (List ℕ)). IfOk c.fact_with.result (Reads fact_texts IsByteFact ts)) (three_texts_of c.args.pieces.now _ _ _ c.in-len3.len_at_least c.in-len3.len_below) c.fact_with.ensures
