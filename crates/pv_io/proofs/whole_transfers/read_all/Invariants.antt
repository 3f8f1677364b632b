-- Each read gave at least one byte, and the content is what was taken.
use Rattle.std.proofs.Common.{◌≤◌, length}
use Rattle.std.specs.Io.KnownBytes.{Consumes}
use Rattle.pv_io.specs.Calls.{CountsAtMost}
use Rattle.pv_io.proofs.whole_transfers.read_all.Given as goal

abbrev pub invariant-loop : goal.invariant-loop
invariant-loop g l = record {
  taken : Consumes (g.S.Source.left l.fn.source) (g.S.Source.left l.source) l.content.items;
  many : l.counter ≤ length l.content.items;
  few : length l.content.items ≤ 67108864;
  faults : g.S.Source.faults l.fn.source ≤ g.S.Source.faults l.source;
  calls : CountsAtMost l.counter (g.S.Source.calls l.fn.source) (g.S.Source.calls l.source);
}
