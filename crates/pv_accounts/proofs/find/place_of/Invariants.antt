use Rattle.std.proofs.Common.{◌≡◌, ◌+◌, ◌≤◌, length}
use Rattle.std.specs.List.{position_or_len}
use Rattle.pv_accounts.specs.Files.{lines_of}
use Rattle.pv_accounts.specs.Kinds.{test_of, is_entry_named}
use Rattle.pv_accounts.proofs.find.place_of.Given as goal

abbrev pub invariant-loop-line : goal.invariant-loop-line
invariant-loop-line l =
    record {
      place : l.place + position_or_len (is_entry_named (test_of l.fn.kind) l.name) (lines_of l.rest) ≡ position_or_len (is_entry_named (test_of l.fn.kind) l.name) (lines_of l.file);
      within : l.place + length l.rest ≤ length l.file;
    }

abbrev pub decreases-loop-line : goal.decreases-loop-line
decreases-loop-line l = length l.rest
