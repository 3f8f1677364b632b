use Rattle.std.proofs.Common.{◌≡◌, ℕ, ◌||◌, List, length}
use Rattle.std.specs.List.{list_any}
use Rattle.pv_accounts.specs.Among.{is_among}
use Rattle.pv_accounts.specs.Files.{lines_of}
use Rattle.pv_accounts.specs.Kinds.{is_entry_named, test_of}
use Rattle.pv_accounts.proofs.entry_names.EntryNames.of.Given as goal

abbrev pub invariant-loop-line : goal.invariant-loop-line
invariant-loop-line l = (name : List ℕ) →
    (list_any (is_entry_named (test_of l.fn.kind) name) (lines_of l.rest) || is_among l.names name) ≡ list_any (is_entry_named (test_of l.fn.kind) name) (lines_of l.file)

abbrev pub decreases-loop-line : goal.decreases-loop-line
decreases-loop-line l = length l.rest
