use Rattle.pv_image.proofs.ImageLaws.{one_image}
use Rattle.pv_image.proofs.laws.bytes_are_one_image.Goals as goal

pub returns : goal.returns
returns c = one_image
