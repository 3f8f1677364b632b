use Rattle.std.proofs.Common.{length, map}
use Rattle.pv_steps.specs.Trees.{IsTree}
use Rattle.pv_tree.proofs.GrowLaws.{IsGrowing}
use Rattle.pv_image.proofs.MappedLaws.{shown_by}
use Rattle.pv_folder.specs.Merge.{plain, plained}
use Rattle.pv_folder.proofs.plain.plain_copy.Given as goal

-- what the walk has passed is there
abbrev pub invariant-loop-place : goal.invariant-loop-place
invariant-loop-place l = IsGrowing (plained l.tree.files) l.builder.files l.builder.last (map (shown_by plain) l.walk) × IsTree l.tree.files

abbrev pub decreases-loop-place : goal.decreases-loop-place
decreases-loop-place l = length l.walk
