use Rattle.std.proofs.Common.{◌≡◌, true, false, ◌∙◌, sym, ap}
use Rattle.pv_path.specs.Names.{is_name}
use Rattle.pv_image.proofs.Characters.{name_fits}
use Rattle.pv_image.proofs.Printing.{printed_injective}
use Rattle.pv_image.proofs.name.read_printed_name.Goals as goal

pub returns-in_default : goal.returns-in_default
returns-in_default c = let none = rw c.in_default.is at c.in_ok-bytes.ensures in λ x is. none x (name_fits x is)

pub returns-then-not-is_name : goal.returns-then-not-is_name
returns-then-not-is_name c =
    λ x is e.
    let read = rw c.in-Some.is at c.in_ok-bytes.ensures in
    let same : x ≡ c.in-Some.bytes = printed_injective x c.in-Some.bytes (sym e ∙ read.1) in
    let named : is_name c.as_slice.result.now ≡ true = ap is_name (c.as_slice.ensures ∙ sym same) ∙ is in
    let bad : true ≡ false = sym named ∙ sym c.is_name.ensures ∙ c.if-not-is_name.true in
    cc
