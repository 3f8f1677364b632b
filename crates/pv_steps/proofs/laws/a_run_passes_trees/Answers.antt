use Rattle.std.specs.Prelude.{⊤}
use Rattle.pv_steps.proofs.RunLaws.{along_trees}
use Rattle.pv_steps.proofs.laws.a_run_passes_trees.Goals as goal

pub returns : goal.returns
returns c = along_trees (λ _. ⊤)
