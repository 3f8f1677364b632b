use Rattle.pv_text.proofs.Characters.{one_line-printed_path}
use Rattle.pv_text.proofs.one_line.OneLine.of_path.Goals as goal

pub invariant_of-result : goal.invariant_of-result
invariant_of-result c = rw (c.from_vec.ensures, c.in_ok-text.ensures) (one_line-printed_path c.args.path.now)
