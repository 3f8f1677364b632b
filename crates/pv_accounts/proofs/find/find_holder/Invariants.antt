use Rattle.std.proofs.Common.{◌≡◌, ◌+◌, ◌≤◌, length, drop}
use Rattle.std.specs.Option.{option_map}
use Rattle.pv_accounts.specs.Files.{lines_of, name_of, holder_of}
use Rattle.pv_accounts.specs.Kinds.{test_of}
use Rattle.pv_accounts.proofs.Holding.{left_at}
use Rattle.pv_accounts.proofs.find.find_holder.Given as goal

abbrev pub invariant-loop-line : goal.invariant-loop-line
invariant-loop-line l =
    record {
      left : option_map name_of (left_at (test_of l.kind) (lines_of l.file) l.place l.id l.but) ≡ holder_of (test_of l.kind) l.file l.id l.but;
      rest : drop l.place (lines_of l.file) ≡ lines_of l.rest;
      within : l.place + length l.rest ≤ length l.file;
    }

abbrev pub decreases-loop-line : goal.decreases-loop-line
decreases-loop-line l = length l.rest
