use Rattle.std.proofs.Common.{length}
use Rattle.pv_lines.proofs.mode_field.+mode_after.Given as goal

abbrev pub decreases-mode_after : goal.decreases-mode_after
decreases-mode_after l = length l.text.now
