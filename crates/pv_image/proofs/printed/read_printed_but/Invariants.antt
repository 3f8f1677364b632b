use Rattle.std.proofs.Common.{◌≡◌, ◌++◌, true, length}
use Rattle.pv_path.specs.Printing.{is_plain_but, printed_by}
use Rattle.pv_steps.specs.Attributes.{are_bytes}
use Rattle.pv_image.proofs.printed.read_printed_but.Given as goal

abbrev pub invariant-loop-rest : goal.invariant-loop-rest
invariant-loop-rest l = record { so_far : l.text ≡ printed_by (is_plain_but l.hidden) l.bytes.items ++ l.rest; are_bytes : are_bytes l.bytes.items ≡ true }

abbrev pub decreases-loop-rest : goal.decreases-loop-rest
decreases-loop-rest l = length l.rest
