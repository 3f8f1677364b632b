use Rattle.std.proofs.Common.{◌≡◌, List, ℕ, length, subst, arith}
use Rattle.pv_steps.specs.Objects.{StampsFit}
use Rattle.pv_image.specs.Spelling.{stamp_texts}
use Rattle.pv_image.specs.Reading.{Reads}
use Rattle.pv_image.proofs.Paths.{as_many, four_texts_of}
use Rattle.pv_image.proofs.column.stamps_of.Goals as goal

pub returns-in-len4 : goal.returns-in-len4
returns-in-len4 c =
    subst (λ (ts : List (List ℕ)). Reads stamp_texts StampsFit ts c.stamps_with.result) (four_texts_of c.args.pieces.now _ _ _ _ c.in-len4.len_at_least c.in-len4.len_below) c.stamps_with.ensures

pub returns-in_default : goal.returns-in_default
returns-in_default c = λ x fit e. let four : length c.args.pieces.now ≡ 4 = as_many c.args.pieces.now (stamp_texts x) e in omega (arith, four, c.in_default.len_below)
