use Rattle.pv_laws.proofs.Moments.{quiet_same}
use Rattle.pv_laws.proofs.laws.refusing_no_line_needs_no_moment.Goals as goal

pub returns : goal.returns
returns c = quiet_same
