use Rattle.std.proofs.Common.{◌++◌, ◌∙◌}
use Rattle.pv_sysusers.specs.Needs.{accounts_of, is_made}
use Rattle.pv_sysusers.specs.Shown.{shown, shown_line}
use Rattle.pv_sysusers.proofs.LineLaws.{lines_more}
use Rattle.std.proofs.lemmas.Result.{IfOk-from_err}
use Rattle.pv_sysusers.proofs.needs.all_accounts.Goals as goal

pub loop-line-preserved : goal.loop-line-preserved
loop-line-preserved c =
    c.in_ok-add_accounts.ensures ∙ (λ j. c.loop-line.invariant j ++ accounts_of (is_made c.args.users.now (shown c.args.lines.now.kept.items)) (shown_line c.line-item.result))
    ∙ lines_more (accounts_of (is_made c.args.users.now (shown c.args.lines.now.kept.items))) c.args.lines.now.kept.items c.deref-line-items.result.now c.loop-line.line-index c.line-item.result c.deref-line-items.ensures.value c.loop-line-test.true c.line-item.is

pub returns-in_err-add_accounts : goal.returns-in_err-add_accounts
returns-in_err-add_accounts c = IfOk-from_err c.from_residual.result _ c.from_residual.ensures.0
