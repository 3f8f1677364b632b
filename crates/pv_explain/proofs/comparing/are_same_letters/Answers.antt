use Rattle.std.specs.Prelude.{◌==◌}
use Rattle.std.proofs.lemmas.Bool.{eqb-true, eq-eqb}
use Rattle.pv_path.proofs.Tests.{same_tests}
use Rattle.pv_explain.proofs.comparing.are_same_letters.Goals as goal

pub returns : goal.returns
returns c = same_tests c.is_same.result (c.args.a == c.args.b) (λ h. eq-eqb c.args.a c.args.b (c.is_same.ensures.0 h)) (λ h. c.is_same.ensures.1 (eqb-true c.args.a c.args.b h))
