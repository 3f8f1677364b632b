use Rattle.pv_image.proofs.ImageLaws.{text_image}
use Rattle.pv_image.proofs.laws.text_is_an_image.Goals as goal

pub returns : goal.returns
returns c = text_image
