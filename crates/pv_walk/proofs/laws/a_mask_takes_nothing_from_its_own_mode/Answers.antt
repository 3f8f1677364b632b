use Rattle.pv_walk.proofs.Absorbing.{with_masked-own}
use Rattle.pv_walk.proofs.laws.a_mask_takes_nothing_from_its_own_mode.Goals as goal

pub returns : goal.returns
returns c = with_masked-own
