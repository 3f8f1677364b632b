use Rattle.std.proofs.Common.{◌≡◌, length}
use Rattle.pv_steps.specs.Trees.{IsTree}
use Rattle.pv_folder.proofs.MergingLaws.{IsMerging}
use Rattle.pv_folder.proofs.merging.merge_into.Given as goal

-- what the walk has passed is merged
abbrev pub invariant-loop-place : goal.invariant-loop-place
invariant-loop-place l =
    IsMerging l.manifest.files l.initial.tree.files l.tree.files l.entries × (l.tree.steps ≡ l.initial.tree.steps) × IsTree l.manifest.files

abbrev pub decreases-loop-place : goal.decreases-loop-place
decreases-loop-place l = length l.entries
