use Rattle.pv_image.proofs.OnceLine.{spells_once}
use Rattle.pv_image.proofs.laws.line_says_one_thing.Goals as goal

pub returns : goal.returns
returns c = spells_once
