use Rattle.pv_age.proofs.DigitLaws.{digits_first}
use Rattle.pv_age.proofs.sum.first_pair.Goals as goal

pub number_of-requires-clause-digits : goal.number_of-requires-clause-digits
number_of-requires-clause-digits c = rw c.digit_count-digits.ensures.value (digits_first c.args.text.now)
