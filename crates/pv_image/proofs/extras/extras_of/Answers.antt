use Rattle.std.proofs.Common.{List, ℕ, subst}
use Rattle.std.specs.Prelude.{IfOk}
use Rattle.pv_image.specs.declared.version.Version.TheVariants.{Two}
use Rattle.pv_image.specs.Spelling.{IsExtras, extra_texts}
use Rattle.pv_image.specs.Reading.{Reads}
use Rattle.pv_image.proofs.Paths.{two_texts_of}
use Rattle.pv_image.proofs.extras.extras_of.Goals as goal

pub returns-in-len2 : goal.returns-in-len2
returns-in-len2 c =
    subst (λ (ts : List (List ℕ)). IfOk c.extras_with.result (Reads (extra_texts Two) (IsExtras Two c.args.kind) ts)) (two_texts_of c.args.pieces.now _ _ c.in-len2.len_at_least c.in-len2.len_below) c.extras_with.ensures
