use Rattle.std.proofs.Common.{length}
use Rattle.pv_path.proofs.relate.+names_under.Given as goal

abbrev pub decreases-names_under : goal.decreases-names_under
decreases-names_under l = length l.prefix.now
