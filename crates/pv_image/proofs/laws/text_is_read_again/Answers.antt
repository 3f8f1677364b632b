use Rattle.pv_image.proofs.ImageLaws.{read_again}
use Rattle.pv_image.proofs.laws.text_is_read_again.Goals as goal

pub returns : goal.returns
returns c = read_again
