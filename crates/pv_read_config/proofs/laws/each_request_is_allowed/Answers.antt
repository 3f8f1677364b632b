use Rattle.pv_read_config.proofs.AllowedLaws.{requested_allowed}
use Rattle.pv_read_config.proofs.laws.each_request_is_allowed.Goals as goal

pub returns : goal.returns
returns c = requested_allowed
