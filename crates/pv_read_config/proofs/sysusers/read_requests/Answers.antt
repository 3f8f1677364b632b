use Rattle.pv_requests.specs.Allowed.{IsAllowed}
use Rattle.pv_requests.specs.Paths.{HasFewNames}
use Rattle.pv_read_config.proofs.WholeLaws.{all_first, all_second}
use Rattle.pv_read_config.proofs.sysusers.read_requests.Goals as goal

pub returns-clause-whole : goal.returns-clause-whole
returns-clause-whole g c = all_first HasFewNames IsAllowed c.in_ok-configuration.configuration.lines c.in_ok-configuration.ensures.whole

pub returns-clause-allowed : goal.returns-clause-allowed
returns-clause-allowed g c = all_second HasFewNames IsAllowed c.in_ok-configuration.configuration.lines c.in_ok-configuration.ensures.whole
