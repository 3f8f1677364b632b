use Rattle.std.proofs.Common.{List, ℕ, subst, ap, ◌∙◌}
use Rattle.pv_image.specs.Spelling.{number_texts}
use Rattle.pv_image.specs.Reading.{AreNumbers, Reads, texts}
use Rattle.pv_image.proofs.Cutting.{reads_joined}
use Rattle.pv_image.proofs.Characters.{numbers_again}
use Rattle.pv_image.proofs.payload.read_numbers.Goals as goal

pub returns : goal.returns
returns c =
    reads_joined 58 number_texts AreNumbers c.args.text.now c.numbers_of.result numbers_again
    (subst (λ (ts : List (List ℕ)). Reads number_texts AreNumbers ts c.numbers_of.result) (ap texts c.as_slice.ensures.value ∙ c.in_ok-pieces.ensures) c.numbers_of.ensures)
