use Rattle.pv_lines.proofs.Fields.{path_of-configured}
use Rattle.pv_lines.proofs.argument_field.source_of.Goals as goal

pub returns-clause-fits : goal.returns-clause-fits
returns-clause-fits c = path_of-configured c.as_slice.result.now c.in_ok-parse_path.field-0 c.in_ok-parse_path.ensures
