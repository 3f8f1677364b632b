use Rattle.std.proofs.Common.{ℕ, Bool, subst}
use Rattle.std.specs.Prelude.{IfOk}
use Rattle.pv_path.specs.Printing.{printed_by}
use Rattle.pv_path.proofs.Printed.{hidden_none}
use Rattle.pv_image.specs.Reading.{IsByteText, Reads}
use Rattle.pv_image.proofs.printed.read_printed.Goals as goal

pub returns : goal.returns
returns c =
    subst (λ (p : ℕ → Bool). IfOk c.read_printed_but.result (Reads (printed_by p) IsByteText c.args.text.now)) hidden_none c.read_printed_but.ensures
