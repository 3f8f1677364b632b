use Rattle.std.proofs.Common.{◌≡◌, true, false, ◌∙◌, sym, subst}
use Rattle.pv_steps.specs.Objects.{IsTarget}
use Rattle.pv_image.proofs.Printing.{printed_injective}
use Rattle.pv_image.proofs.payload.read_target.Goals as goal

pub returns-then-not-is_target : goal.returns-then-not-is_target
returns-then-not-is_target c =
    λ x is e.
    let read = rw c.in-Some.is at c.in_ok-bytes.ensures in
    let same : x ≡ c.in-Some.bytes = printed_injective x c.in-Some.bytes (sym e ∙ read.1) in
    let fits : IsTarget c.as_slice.result.now = subst IsTarget (same ∙ sym c.as_slice.ensures) is.target in
    let bad : true ≡ false = sym (c.is_target.ensures.1 fits) ∙ c.if-not-is_target.true in
    cc
