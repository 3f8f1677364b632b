use Rattle.std.proofs.lemmas.Str.Parse.{numerals_by_value, parse_digits, tells_all_ascii_digits}
use Rattle.pv_age.proofs.DigitLaws.{parse_over}
use Rattle.pv_age.proofs.sum.parsed.Goals as goal

pub returns-in-Err : goal.returns-in-Err
returns-in-Err c =
    parse_over c.args.digits.now c.parse.result c.in-Err.field-0 c.requires.some c.in-Err.is
    (parse_digits (numerals_by_value _ tells_all_ascii_digits) 64 _ _ c.parse.ensures.value.0 c.requires.digits)
