use Rattle.pv_remove.proofs.AgainLaws.{removed_tree}
use Rattle.pv_remove.proofs.laws.what_a_removal_leaves_is_a_tree.Goals as goal

pub returns : goal.returns
returns c = removed_tree
