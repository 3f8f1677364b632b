use Rattle.std.proofs.Common.{length}
use Rattle.pv_sysusers.proofs.sweeping.+sweep_files.Given as goal

abbrev pub decreases-sweep_files : goal.decreases-sweep_files
decreases-sweep_files g l = length l.paths.now
