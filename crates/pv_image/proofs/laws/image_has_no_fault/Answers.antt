use Rattle.pv_image.proofs.ImageLaws.{image_sound}
use Rattle.pv_image.proofs.laws.image_has_no_fault.Goals as goal

pub returns : goal.returns
returns c = image_sound
