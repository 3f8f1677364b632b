use Rattle.pv_walk.proofs.Dividing.{run-parts, repeatable-parts}
use Rattle.pv_walk.proofs.laws.operations_do_the_same_in_parts.Goals as goal

pub returns : goal.returns
returns c = record { same = run-parts; quiet = repeatable-parts }
