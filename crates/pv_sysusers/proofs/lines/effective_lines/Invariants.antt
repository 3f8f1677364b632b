use Rattle.std.proofs.Common.{◌≡◌, ◌++◌, [], drop}
use Rattle.pv_sysusers.specs.Lines.{counting, lines_from, duplicate_messages}
use Rattle.pv_sysusers.specs.Shown.{IsIndexed, shown}
use Rattle.pv_sysusers.proofs.lines.effective_lines.Given as goal

abbrev pub invariant-loop-i : goal.invariant-loop-i
invariant-loop-i l =
    record {
      kept : counting (shown l.lines.kept.items) (lines_from l.taken l.i (drop l.i l.fn.requests)) ≡ counting [] (lines_from l.taken 0 l.fn.requests);
      new_messages : l.new_messages ++ duplicate_messages (shown l.lines.kept.items) (lines_from l.taken l.i (drop l.i l.fn.requests)) ≡ l.fn.new_messages ++ duplicate_messages [] (lines_from l.taken 0 l.fn.requests);
      index : IsIndexed l.lines;
    }
