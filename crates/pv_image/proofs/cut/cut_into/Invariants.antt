use Rattle.std.proofs.Common.{◌≡◌, ◌++◌, ◌==◌, ◌≤◌, ◌-◌, length, take}
use Rattle.std.specs.List.{slice_split}
use Rattle.pv_image.specs.Reading.{texts}
use Rattle.pv_image.proofs.cut.cut_into.Given as goal

-- the pieces so far are those of what is cut off
abbrev pub invariant-loop-count : goal.invariant-loop-count
invariant-loop-count l = record {
  fits : l.count ≤ length l.pieces;
  same : length l.pieces ≡ length l.initial.pieces;
  so_far : texts (take l.count l.pieces) ++ slice_split (λ b. b == l.byte) l.rest ≡ slice_split (λ b. b == l.byte) l.text;
}

abbrev pub decreases-loop-count : goal.decreases-loop-count
decreases-loop-count l = length l.pieces - l.count
