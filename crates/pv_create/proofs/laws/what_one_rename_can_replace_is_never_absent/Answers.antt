use Rattle.pv_create.proofs.ReplacingLaws.{stands_until}
use Rattle.pv_create.proofs.laws.what_one_rename_can_replace_is_never_absent.Goals as goal

pub returns : goal.returns
returns c = λ now line path t u subtree tree plain puts put can way. stands_until now line path plain t u tree puts subtree put can way
