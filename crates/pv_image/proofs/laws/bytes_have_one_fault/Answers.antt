use Rattle.pv_image.proofs.ImageLaws.{one_fault}
use Rattle.pv_image.specs.Images.{Before}
use Rattle.pv_image.proofs.laws.bytes_have_one_fault.Goals as goal

pub returns : goal.returns
returns c = λ bytes f g a b. one_fault 1 Before bytes f g a b
