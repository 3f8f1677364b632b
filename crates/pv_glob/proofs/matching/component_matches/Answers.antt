use Rattle.std.proofs.Common.{arith, rules}
use Rattle.pv_glob.proofs.Along.{empty_matches, other_matches}
use Rattle.pv_glob.proofs.matching.component_matches.Goals as goal

pub returns-in-empty : goal.returns-in-empty
returns-in-empty c = empty_matches c.args.elements.now c.args.name.now c.rest_matches.result (omega arith) c.rest_matches.ensures

pub returns-else-first-eq46 : goal.returns-else-first-eq46
returns-else-first-eq46 c = other_matches c.args.elements.now c.args.name.now c.rest_matches-else-first-eq46.result (search rules) c.in-len1-up.len_at_least c.rest_matches-else-first-eq46.ensures
