use Rattle.std.proofs.Common.{◌+◌, ◌<◌, ◌^◌, length, List, ℕ}
use Rattle.std.specs.FinMap as fin
use Rattle.pv_image.specs.Images.{InNodes}
use Rattle.pv_image.specs.Progress.{IsLastPath, Leads, TreeRead}
use Rattle.pv_image.proofs.reader.read_nodes.Given as goal

abbrev pub invariant-loop-text : goal.invariant-loop-text
invariant-loop-text l = record {
  leads : Leads l.left.number (InNodes l.version (fin.entries l.initial.tree.files)) l.left.bytes.now l.number (InNodes l.version (fin.entries l.tree.files)) l.rest;
  text : (bytes : List ℕ) → TreeRead l.version bytes l.initial.tree.files l.left.bytes.now → TreeRead l.version bytes l.tree.files l.rest;
  last : IsLastPath l.tree.files l.tree.last;
  small : l.number + length l.rest < 2 ^ 64;
}

abbrev pub decreases-loop-text : goal.decreases-loop-text
decreases-loop-text l = length l.rest
