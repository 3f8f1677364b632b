-- The bytes of one more write come after those done.
use Rattle.std.proofs.Common.{◌≤◌, ◌+◌, length, take, drop, arith, length-drop}
use Rattle.std.specs.Io.KnownBytes.{Appends}
use Rattle.std.proofs.Math.Seq.{take-add}
use Rattle.std.proofs.lemmas.List.{take_rest}
use Rattle.std.proofs.KnownBytes.{Appends-trans}
use Rattle.pv_io.proofs.CountLaws.{CountsAtMost-call, CountsAtMost-more}
use Rattle.pv_io.proofs.whole_transfers.write_all_of.Goals as goal

pub loop-done-preserved : goal.loop-done-preserved
loop-done-preserved g c =
    let bytes = c.args.bytes.now in
    let done = c.loop-done.done in
    let count = c.in_ok-done.field-0 in
    let old = c.loop-done.invariant in
    let write = c.in_ok-done.ensures in
    let rest = take_rest bytes done in
    let fits : count ≤ length (drop done bytes) = rw (← rest) write.fits in
    let some : 1 ≤ count = write.some in
    let moved : Appends (g.K.Sink.written c.loop-done.sink) (g.K.Sink.written c.write.new.self) (take count (drop done bytes)) =
    rw (← rest) write.takes in
    let called = CountsAtMost-call done _ _ _ old.calls write.counted in
    record {
      within = let size = length-drop done bytes in let bound = old.within in omega (arith, fits, size, bound);
      appended = rw take-add (Appends-trans _ _ _ _ _ old.appended moved);
      faults = let before = old.faults in let after = write.never_falls in omega (arith, before, after);
      calls = CountsAtMost-more (done + 1) (done + count) _ _ (omega (arith, some)) called;
    }
