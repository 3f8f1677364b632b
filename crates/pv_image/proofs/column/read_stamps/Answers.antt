use Rattle.std.proofs.Common.{List, ℕ, subst}
use Rattle.pv_steps.specs.Objects.{StampsFit}
use Rattle.pv_image.specs.Spelling.{stamp_texts}
use Rattle.pv_image.specs.Reading.{Reads}
use Rattle.pv_image.proofs.Cutting.{reads_joined, reads_too_many}
use Rattle.pv_image.proofs.Characters.{four_stamps, stamps_again}
use Rattle.pv_image.proofs.column.read_stamps.Goals as goal

pub returns-in-Some : goal.returns-in-Some
returns-in-Some c =
    reads_joined 44 stamp_texts StampsFit c.args.text.now c.stamps_of.result stamps_again
    (subst (λ (ts : List (List ℕ)). Reads stamp_texts StampsFit ts c.stamps_of.result) c.in-Some.ensures.some c.stamps_of.ensures)

pub returns-in-None : goal.returns-in-None
returns-in-None c =
    reads_too_many 44 4 stamp_texts StampsFit c.args.text.now stamps_again four_stamps c.in-None.ensures.none
