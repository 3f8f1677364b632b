-- Digits are UTF-8.
use Rattle.pv_path.proofs.Digits.{digits-utf8}
use Rattle.pv_path.proofs.Tests.{ok-from_cases}
use Rattle.pv_age.proofs.sum.number_of.Goals as goal

pub unwrap-requires : goal.unwrap-requires
unwrap-requires c =
    let text = digits-utf8 c.args.digits.now c.requires.digits in
    ok-from_cases c.from_utf8.result _ _ c.from_utf8.ensures.cases (λ e wrong. wrong.0 text)
