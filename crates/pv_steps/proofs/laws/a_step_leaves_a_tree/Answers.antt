use Rattle.pv_steps.proofs.TreeLaws.{tree_after}
use Rattle.pv_steps.proofs.laws.a_step_leaves_a_tree.Goals as goal

pub returns : goal.returns
returns c = tree_after
