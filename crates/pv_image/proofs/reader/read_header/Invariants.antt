use Rattle.std.proofs.Common.{◌+◌, ◌≤◌, length}
use Rattle.pv_image.specs.Images.{Before}
use Rattle.pv_image.specs.Progress.{Leads, NotesRead}
use Rattle.pv_image.proofs.reader.read_header.Given as goal

abbrev pub invariant-loop-text : goal.invariant-loop-text
invariant-loop-text l = record {
  leads : Leads 1 Before l.bytes l.number Before l.rest;
  notes : NotesRead l.bytes l.rest;
  small : l.number + length l.rest ≤ length l.bytes + 1;
}

abbrev pub decreases-loop-text : goal.decreases-loop-text
decreases-loop-text l = length l.rest
