use Rattle.pv_age.proofs.PrintedLaws.{sum_reads_back}
use Rattle.pv_age.proofs.laws.printed_numbers_with_units_read_back_as_their_sum.Goals as goal

pub returns : goal.returns
returns c = sum_reads_back
