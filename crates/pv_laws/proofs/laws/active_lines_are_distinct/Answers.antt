use Rattle.pv_laws.proofs.Actives.{active_repeatable}
use Rattle.pv_laws.proofs.laws.active_lines_are_distinct.Goals as goal
use Rattle.pv_table.proofs.KeepLaws.{active-distinct}

pub returns : goal.returns
returns c = record { distinct = active-distinct; repeatable = active_repeatable }
