use Rattle.std.proofs.Common.{length}
use Rattle.pv_sysusers.proofs.staging.+stage_all.Given as goal

abbrev pub decreases-stage_all : goal.decreases-stage_all
decreases-stage_all g l = length l.edits.now
