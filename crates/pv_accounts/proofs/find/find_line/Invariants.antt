use Rattle.std.proofs.Common.{◌≡◌, length}
use Rattle.std.specs.List.{find}
use Rattle.pv_accounts.specs.Files.{entry_named, lines_of}
use Rattle.pv_accounts.specs.Kinds.{test_of, is_entry_named}
use Rattle.pv_accounts.proofs.find.find_line.Given as goal

abbrev pub invariant-loop-line : goal.invariant-loop-line
invariant-loop-line l =
    record {
      line : find (is_entry_named (test_of l.fn.kind) l.name) (lines_of l.rest) ≡ find (is_entry_named (test_of l.fn.kind) l.name) (lines_of l.file);
      entry : entry_named (test_of l.fn.kind) l.rest l.name ≡ entry_named (test_of l.fn.kind) l.file l.name;
    }

abbrev pub decreases-loop-line : goal.decreases-loop-line
decreases-loop-line l = length l.rest
