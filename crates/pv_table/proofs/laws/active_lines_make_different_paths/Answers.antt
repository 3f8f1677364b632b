use Rattle.pv_table.proofs.KeepLaws.{active-distinct}
use Rattle.pv_table.proofs.laws.active_lines_make_different_paths.Goals as goal

pub returns : goal.returns
returns c = active-distinct
