use Rattle.std.proofs.Common.{sym, ◌∙◌}
use Rattle.pv_walk.proofs.PartEquality.{mask_decides}
use Rattle.pv_walk.proofs.setting_metadata.is_same_mask.Goals as goal

pub returns : goal.returns
returns c =
    let both = mask_decides c.args.a.now.mask c.args.b.now.mask in
    (λ h. both.0 (sym c.eq.ensures ∙ h), λ e. c.eq.ensures ∙ both.1 e)
