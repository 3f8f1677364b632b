use Rattle.std.proofs.Common.{◌≡◌, length}
use Rattle.pv_accounts.specs.Files.{lines_of}
use Rattle.pv_accounts.specs.InUse.{ids_of, with_lines}
use Rattle.pv_accounts.specs.Kinds.{test_of}
use Rattle.pv_accounts.proofs.in_use.InUse.of.Given as goal

abbrev pub invariant-loop-line : goal.invariant-loop-line
invariant-loop-line l = with_lines (test_of l.fn.kind) l.ids (lines_of l.rest) ≡ ids_of (test_of l.fn.kind) l.file

abbrev pub decreases-loop-line : goal.decreases-loop-line
decreases-loop-line l = length l.rest
