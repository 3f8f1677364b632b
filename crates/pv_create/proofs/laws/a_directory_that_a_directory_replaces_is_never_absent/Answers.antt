use Rattle.pv_create.proofs.ReplacingLaws.{directory_until}
use Rattle.pv_create.proofs.laws.a_directory_that_a_directory_replaces_is_never_absent.Goals as goal

pub returns : goal.returns
returns c = λ now line path t u subtree tree plain puts put both way. directory_until now line path plain t u tree puts subtree put both way
