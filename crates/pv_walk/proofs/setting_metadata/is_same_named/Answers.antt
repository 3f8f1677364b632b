use Rattle.std.proofs.Common.{sym, ◌∙◌}
use Rattle.pv_walk.proofs.PartEquality.{named_decides}
use Rattle.pv_walk.proofs.setting_metadata.is_same_named.Goals as goal

pub returns : goal.returns
returns c =
    let both = named_decides c.args.a.now.named c.args.b.now.named in
    (λ h. both.0 (sym c.eq.ensures ∙ h), λ e. c.eq.ensures ∙ both.1 e)
