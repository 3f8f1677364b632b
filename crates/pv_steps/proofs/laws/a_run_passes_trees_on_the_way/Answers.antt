use Rattle.pv_steps.specs.Trees.{IsTree}
use Rattle.pv_steps.proofs.RunLaws.{along_prefix}
use Rattle.pv_steps.proofs.laws.a_run_passes_trees_on_the_way.Goals as goal

pub returns : goal.returns
returns c = λ files steps now k h. along_prefix IsTree files steps now k h
