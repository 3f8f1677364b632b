use Rattle.std.proofs.Common.{◌≡◌, ◌++◌, length, map}
use Rattle.std.specs.List.{flat_map}
use Rattle.std.specs.FinMap as fin
use Rattle.pv_image.specs.Written.{written_object, written_tree}
use Rattle.pv_image.specs.Writing.{node_line}
use Rattle.pv_image.proofs.MappedLaws.{shown_by}
use Rattle.pv_image.proofs.writer.add_nodes.Given as goal

-- the lines of what the walk has passed are there
abbrev pub invariant-loop-place : goal.invariant-loop-place
invariant-loop-place l =
    l.output.items ++ flat_map node_line (map (shown_by (written_object l.extent)) l.walk)
    ≡ l.initial.output.items ++ flat_map node_line (fin.entries (written_tree l.extent l.tree.files))

abbrev pub decreases-loop-place : goal.decreases-loop-place
decreases-loop-place l = length l.walk
