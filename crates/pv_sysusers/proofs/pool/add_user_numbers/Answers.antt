use Rattle.std.proofs.lemmas.Result.{IfOk-from_err}
use Rattle.std.proofs.Common.{ℕ, List, ◌++◌, ap, ◌∙◌}
use Rattle.pv_sysusers.specs.Needs.{account_numbers}
use Rattle.pv_sysusers.proofs.LineLaws.{items_more}
use Rattle.pv_sysusers.proofs.pool.add_user_numbers.Goals as goal

pub returns-in_err-add_account_numbers : goal.returns-in_err-add_account_numbers
returns-in_err-add_account_numbers c = IfOk-from_err c.from_residual.result _ c.from_residual.ensures.0

pub loop-account-preserved : goal.loop-account-preserved
loop-account-preserved c =
    c.in_ok-add_account_numbers.ensures ∙ ap (λ (ns : List ℕ). ns ++ account_numbers c.account-item.result) c.loop-account.invariant
    ∙ items_more account_numbers c.args.numbers.now.items c.args.accounts.now c.loop-account.account-index c.account-item.result c.loop-account-test.true c.account-item.is
