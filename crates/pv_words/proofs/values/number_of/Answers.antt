use Rattle.std.proofs.lemmas.Str.Parse.{numerals_by_value, parse_digits, tells_all_ascii_digits}
use Rattle.pv_words.proofs.ValueLaws.{decimal-parsed}
use Rattle.pv_words.proofs.values.number_of.Goals as goal

pub returns : goal.returns
returns c =
    let value = c.ok.ensures.value in
    rw value (decimal-parsed c.args.digits.now c.parse.result c.requires
    (parse_digits (numerals_by_value _ tells_all_ascii_digits) 64 _ _ c.parse.ensures.value.0 c.requires))
