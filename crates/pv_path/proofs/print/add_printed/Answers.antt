use Rattle.std.proofs.Common.{ℕ, Bool, ◌++◌, ◌≡◌, OnOk, subst}
use Rattle.pv_path.specs.Printing.{printed_by}
use Rattle.pv_path.proofs.Printed.{hidden_none}
use Rattle.pv_path.proofs.print.add_printed.Goals as goal

pub returns : goal.returns
returns c =
    subst (λ (p : ℕ → Bool). OnOk c.add_printed_but.result (c.add_printed_but.new.text.items ≡ c.args.text.now.items ++ printed_by p c.args.bytes.now)) hidden_none c.add_printed_but.ensures
