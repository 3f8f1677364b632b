use Rattle.std.proofs.Common.{◌≡◌, List, ℕ, length, subst, arith}
use Rattle.std.proofs.lemmas.Bool.Decides.{nat_tests}
use Rattle.pv_image.proofs.AttrTexts.{two_texts}
use Rattle.pv_image.proofs.attrs.attr_of.Goals.{in_default-via-then-pieces-lt2, in_default-via-else-pieces-lt2+else-pieces-lt3}
use Rattle.pv_image.specs.Spelling.{attr_texts}
use Rattle.pv_image.specs.Reading.{Reads, IsAttr}
use Rattle.std.specs.Prelude.{IfOk}
use Rattle.pv_image.proofs.Paths.{two_texts_of}
use Rattle.pv_image.proofs.attrs.attr_of.Goals as goal

pub returns-in_default : goal.returns-in_default
returns-in_default c = elim c.in_default.branch [
  | in_default-via-then-pieces-lt2 w ↦ λ x is e. let two : length c.args.pieces.now ≡ 2 = two_texts c.args.pieces.now x e in grind (arith, nat_tests, two)
  | in_default-via-else-pieces-lt2+else-pieces-lt3 w ↦ λ x is e. let two : length c.args.pieces.now ≡ 2 = two_texts c.args.pieces.now x e in grind (arith, nat_tests, two)
]

pub returns-in-len2 : goal.returns-in-len2
returns-in-len2 c =
    subst (λ (ts : List (List ℕ)). IfOk c.attr_with.result (Reads attr_texts IsAttr ts)) (two_texts_of c.args.pieces.now _ _ c.in-len2.len_at_least c.in-len2.len_below) c.attr_with.ensures
