use Rattle.std.proofs.Common.{sym}
use Rattle.pv_lines.proofs.Fields.{checked_target-target}
use Rattle.pv_lines.proofs.argument_field.target_of.Goals as goal

pub returns-clause-fits : goal.returns-clause-fits
returns-clause-fits c = checked_target-target c.in_ok-text.text c.in_ok-checked_target.field-0 (sym c.in_ok-checked_target.ensures)
