use Rattle.pv_image.proofs.ImageLaws.{old_text_image, old_read_again}
use Rattle.pv_image.proofs.laws.an_old_text_is_an_image.Goals as goal

pub returns-clause-image : goal.returns-clause-image
returns-clause-image c = old_text_image

pub returns-clause-alone : goal.returns-clause-alone
returns-clause-alone c = old_read_again
