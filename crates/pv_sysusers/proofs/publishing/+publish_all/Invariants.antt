use Rattle.std.proofs.Common.{length}
use Rattle.pv_sysusers.proofs.publishing.+publish_all.Given as goal

abbrev pub decreases-publish_all : goal.decreases-publish_all
decreases-publish_all g l = length l.edits.now
