-- Digits are UTF-8.
use Rattle.std.proofs.Common.{◌∙◌, sym}
use Rattle.pv_path.proofs.Digits.{digits-utf8}
use Rattle.pv_path.proofs.Tests.{ok-from_cases}
use Rattle.pv_words.proofs.values.decimal_value.Goals as goal

pub unwrap-requires : goal.unwrap-requires
unwrap-requires c =
    let text = digits-utf8 c.args.text.now (sym c.is_digits.ensures ∙ c.if-is_digits.true) in
    ok-from_cases c.from_utf8.result _ _ c.from_utf8.ensures.cases (λ e wrong. wrong.0 text)
