use Rattle.std.proofs.Common.{sym, ◌∙◌}
use Rattle.pv_walk.proofs.PartEquality.{default_decides}
use Rattle.pv_walk.proofs.setting_metadata.is_same_default.Goals as goal

pub returns : goal.returns
returns c =
    let both = default_decides c.args.a.now.default_part c.args.b.now.default_part in
    (λ h. both.0 (sym c.eq.ensures ∙ h), λ e. c.eq.ensures ∙ both.1 e)
