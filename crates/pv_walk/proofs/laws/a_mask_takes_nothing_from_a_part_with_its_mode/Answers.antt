use Rattle.pv_walk.proofs.Absorbing.{with_masked-own}
use Rattle.pv_walk.proofs.laws.a_mask_takes_nothing_from_a_part_with_its_mode.Goals as goal

pub returns : goal.returns
returns c = λ mode part i. record part { owner = (with_masked-own mode i).owner; group = (with_masked-own mode i).group; other = (with_masked-own mode i).other }
