use Rattle.std.proofs.Common.{◌≡◌, true, false, ◌∙◌, sym, ap}
use Rattle.pv_text.specs.Facts.{is_fact_value}
use Rattle.pv_image.proofs.Printing.{printed_injective}
use Rattle.pv_image.proofs.line.read_value.Goals as goal

pub returns-then-not-is_value : goal.returns-then-not-is_value
returns-then-not-is_value c =
    λ x is e.
    let read = rw c.in-Some.is at c.in_ok-value.ensures in
    let same : x ≡ c.in-Some.value = printed_injective x c.in-Some.value (sym e ∙ read.1) in
    let fits : is_fact_value c.as_slice.result.now ≡ true = ap is_fact_value (c.as_slice.ensures ∙ sym same) ∙ is.length_fits in
    let bad : true ≡ false = sym fits ∙ sym c.is_value.ensures ∙ c.if-not-is_value.true in
    cc
