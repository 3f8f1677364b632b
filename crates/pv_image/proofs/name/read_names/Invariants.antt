use Rattle.std.proofs.Common.{◌≡◌, ◌++◌, ◌==◌, length, map}
use Rattle.std.specs.List.{slice_split}
use Rattle.pv_path.specs.Printing.{printed}
use Rattle.pv_image.specs.Spelling.{HasNames}
use Rattle.pv_image.proofs.name.read_names.Given as goal

-- the names so far are those of what is cut off
abbrev pub invariant-loop-piece : goal.invariant-loop-piece
invariant-loop-piece l = record {
  so_far : map printed l.path ++ slice_split (λ b. b == 47) l.rest ≡ slice_split (λ b. b == 47) l.text;
  is_path : HasNames l.path;
}

abbrev pub decreases-loop-piece : goal.decreases-loop-piece
decreases-loop-piece l = length l.rest
