use Rattle.std.proofs.Common.{length}
use Rattle.pv_steps.specs.Trees.{IsTree}
use Rattle.pv_tree.proofs.GrowLaws.{IsGrowing}
use Rattle.pv_folder.proofs.tree_host.copy_of.Given as goal

-- what the walk has passed is there
abbrev pub invariant-loop-place : goal.invariant-loop-place
invariant-loop-place l = IsGrowing l.tree.files l.builder.files l.builder.last l.walk × IsTree l.tree.files

abbrev pub decreases-loop-place : goal.decreases-loop-place
decreases-loop-place l = length l.walk
