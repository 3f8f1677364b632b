use Rattle.std.proofs.Common.{◌≡◌, ◌++◌, length}
use Rattle.pv_path.specs.Printing.{is_plain_but, printed_by}
use Rattle.pv_path.proofs.print.add_printed_but.Given as goal

abbrev pub invariant-loop-rest : goal.invariant-loop-rest
invariant-loop-rest l = l.initial.text.items ++ printed_by (is_plain_but l.hidden) l.bytes ≡ l.text.items ++ printed_by (is_plain_but l.hidden) l.rest

abbrev pub decreases-loop-rest : goal.decreases-loop-rest
decreases-loop-rest l = length l.rest
