use Rattle.std.specs.Cmp.Lexicographic.{pointwise, pointwise_decides}
use Rattle.pv_path.proofs.Tests.{same_tests}
use Rattle.pv_steps.proofs.AttrPutting as attrs
use Rattle.pv_table.specs.Effects.{same_attr}
use Rattle.pv_explain.proofs.comparing.are_same_attrs.Goals as goal

pub returns : goal.returns
returns c =
    let decides = pointwise_decides (λ a b. attrs.same_attr a b) c.args.a.now c.args.b.now in
    same_tests c.is_same.result (pointwise same_attr c.args.a.now c.args.b.now) (λ h. decides.1 (c.is_same.ensures.0 h)) (λ h. c.is_same.ensures.1 (decides.0 h))
