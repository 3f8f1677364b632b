use Rattle.std.proofs.Common.{◌++◌, refl, ◌∙◌}
use Rattle.pv_sysusers.specs.Shown.{shown_line}
use Rattle.pv_sysusers.specs.Texts.{membership_of}
use Rattle.pv_sysusers.proofs.LineLaws.{lines_more}
use Rattle.pv_sysusers.proofs.members.memberships_of.Goals as goal

pub loop-line-preserved : goal.loop-line-preserved
loop-line-preserved c =
    c.in_ok-add_membership.ensures ∙ (λ j. c.loop-line.invariant j ++ membership_of (shown_line c.line-item.result))
    ∙ lines_more membership_of c.args.lines.now c.args.lines.now c.loop-line.line-index c.line-item.result refl c.loop-line-test.true c.line-item.is
