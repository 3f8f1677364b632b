use Rattle.pv_glob.proofs.Escaped.{spells_literal}
use Rattle.pv_glob.proofs.laws.an_escaped_path_spells_its_literal.Goals as goal

pub returns : goal.returns
returns c = spells_literal
