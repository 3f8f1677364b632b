use Rattle.std.proofs.Common.{◌≡◌, arith}
use Rattle.pv_image.proofs.Decimals.{same_number}
use Rattle.pv_image.proofs.column.read_up_to.Goals as goal

pub returns-in_default : goal.returns-in_default
returns-in_default c =
    λ x fits e.
    let same : x ≡ c.in-Some.n = same_number x c.in-Some.n c.args.text.now (omega arith) c.in-Some.ensures.0 e c.in-Some.ensures.1 in
    omega arith
