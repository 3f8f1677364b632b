use Rattle.pv_clean.proofs.AgeLaws.{took_aged}
use Rattle.pv_clean.proofs.laws.a_stopped_clean_took_what_is_aged.Goals as goal

pub returns : goal.returns
returns c = took_aged
