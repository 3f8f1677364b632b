use Rattle.std.proofs.Common.{◌≡◌, take}
use Rattle.pv_explain.specs.Following.{copies_of}
use Rattle.pv_explain.proofs.region.copies_of.Given as goal

abbrev pub invariant-loop-line : goal.invariant-loop-line
invariant-loop-line l = record {
  items : l.line-items ≡ l.table;
  copies : l.copies.items ≡ copies_of (take l.line-index l.table);
}
