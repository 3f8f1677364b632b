use Rattle.std.proofs.Common.{◌∙◌, drop, length, refl, sym}
use Rattle.pv_steps.proofs.ActingLaws.{Moves, no_memory}
use Rattle.provision_run.specs.Tasks.{task_of}
use Rattle.provision_run.proofs.TaskLaws.{accounts_acted, accounts_anew, accounts_between, accounts_ended, accounts_framed, accounts_left, accounts_recovered, accounts_part, accounts_new_messages, accounts_staged, accounts_gone, accounts_gone_ok, explain_acted, explain_anew, explain_between, explain_ended, explain_framed, explain_gone, explain_left, explain_recovered, explain_part, explain_path, explain_messages, explain_staged, phases_acted, phases_anew, phases_between, phases_ended, phases_framed, phases_left, phases_recovered, phases_part, phases_messages, phases_staged, phases_gone, phases_gone_ok, report_acted, report_anew, report_between, report_ended, report_framed, report_gone, report_left, report_recovered, report_part, report_new_messages, report_staged}
use Rattle.provision_run.proofs.run.run_on_tree.Goals as goal

pub returns-in-Phases-clause-ok : goal.returns-in-Phases-clause-ok
returns-in-Phases-clause-ok g c =
    phases_left c.args.options.now c.args.facts.now c.args.moment (g.T.Tree.state c.args.tree.now) (task_of c.args.options.now) (sym c.in-Phases.is ∙ c.task_of.ensures) c.run_configured_phases.result (g.T.Tree.state c.run_configured_phases.new.tree) c.run_configured_phases.ensures.ok

pub returns-in-Phases-clause-new_messages : goal.returns-in-Phases-clause-new_messages
returns-in-Phases-clause-new_messages g c =
    phases_messages c.args.options.now c.args.facts.now c.args.moment (g.T.Tree.state c.args.tree.now) (task_of c.args.options.now) (sym c.in-Phases.is ∙ c.task_of.ensures) c.run_configured_phases.result c.args.messages.now c.run_configured_phases.new.messages c.run_configured_phases.ensures.new_messages

pub returns-in-Phases-clause-end : goal.returns-in-Phases-clause-end
returns-in-Phases-clause-end g c =
    phases_ended c.args.options.now c.args.facts.now c.args.moment (g.T.Tree.state c.args.tree.now) (task_of c.args.options.now) (sym c.in-Phases.is ∙ c.task_of.ensures) c.run_configured_phases.result c.run_configured_phases.ensures.end

pub returns-in-Phases-clause-staged : goal.returns-in-Phases-clause-staged
returns-in-Phases-clause-staged g c =
    phases_staged c.args.options.now c.args.facts.now c.args.moment (g.T.Tree.state c.args.tree.now) (task_of c.args.options.now) (sym c.in-Phases.is ∙ c.task_of.ensures) c.run_configured_phases.result (g.T.Tree.state c.run_configured_phases.new.tree) c.run_configured_phases.ensures.staged

pub returns-in-Phases-clause-part : goal.returns-in-Phases-clause-part
returns-in-Phases-clause-part g c =
    phases_part c.args.options.now c.args.facts.now c.args.moment (g.T.Tree.state c.args.tree.now) (task_of c.args.options.now) (sym c.in-Phases.is ∙ c.task_of.ensures) c.args.messages.now c.run_configured_phases.new.messages c.run_configured_phases.ensures.part

pub returns-in-Phases-clause-read : goal.returns-in-Phases-clause-read
returns-in-Phases-clause-read g c =
    λ failed. phases_gone c.args.options.now c.args.facts.now c.args.moment (g.T.Tree.state c.args.tree.now) g.T.Tree (task_of c.args.options.now) (sym c.in-Phases.is ∙ c.task_of.ensures) 1 c.args.tree.now c.run_configured_phases.new.tree c.args.messages.now c.run_configured_phases.new.messages (c.run_configured_phases.ensures.stopped failed)

pub returns-in-Phases-clause-in_turn : goal.returns-in-Phases-clause-in_turn
returns-in-Phases-clause-in_turn g c =
    phases_gone_ok c.args.options.now c.args.facts.now c.args.moment (g.T.Tree.state c.args.tree.now) g.T.Tree (task_of c.args.options.now) (sym c.in-Phases.is ∙ c.task_of.ensures) c.run_configured_phases.result c.args.tree.now c.run_configured_phases.new.tree c.args.messages.now c.run_configured_phases.new.messages c.run_configured_phases.ensures.in_turn

pub returns-in-Phases-clause-acted : goal.returns-in-Phases-clause-acted
returns-in-Phases-clause-acted g c =
    phases_acted g.T.Tree c.args.options.now c.args.facts.now c.args.moment (g.T.Tree.state c.args.tree.now) (task_of c.args.options.now) (sym c.in-Phases.is ∙ c.task_of.ensures) c.args.tree.now c.run_configured_phases.new.tree c.run_configured_phases.result c.run_configured_phases.ensures.acted

pub returns-in-Phases-clause-recovers : goal.returns-in-Phases-clause-recovers
returns-in-Phases-clause-recovers g c =
    phases_recovered c.args.options.now c.args.facts.now c.args.moment (g.T.Tree.state c.args.tree.now) (task_of c.args.options.now) (sym c.in-Phases.is ∙ c.task_of.ensures) (drop (length (g.T.Tree.steps c.args.tree.now)) (g.T.Tree.steps c.run_configured_phases.new.tree)) c.run_configured_phases.ensures.recovers

pub returns-in-Phases-clause-anew : goal.returns-in-Phases-clause-anew
returns-in-Phases-clause-anew g c =
    phases_anew c.args.options.now c.args.facts.now c.args.moment (g.T.Tree.state c.args.tree.now) (task_of c.args.options.now) (sym c.in-Phases.is ∙ c.task_of.ensures) (drop (length (g.T.Tree.steps c.args.tree.now)) (g.T.Tree.steps c.run_configured_phases.new.tree)) c.run_configured_phases.ensures.reread c.run_configured_phases.ensures.anew

pub returns-in-Phases-clause-framed : goal.returns-in-Phases-clause-framed
returns-in-Phases-clause-framed g c =
    phases_framed c.args.options.now c.args.facts.now c.args.moment (g.T.Tree.state c.args.tree.now) (task_of c.args.options.now) (sym c.in-Phases.is ∙ c.task_of.ensures) (drop (length (g.T.Tree.steps c.args.tree.now)) (g.T.Tree.steps c.run_configured_phases.new.tree)) c.run_configured_phases.ensures.framed

pub returns-in-Accounts-clause-ok : goal.returns-in-Accounts-clause-ok
returns-in-Accounts-clause-ok g c =
    accounts_left c.args.options.now c.args.facts.now c.args.moment (g.T.Tree.state c.args.tree.now) (task_of c.args.options.now) (sym c.in-Accounts.is ∙ c.task_of.ensures) c.make_accounts.result (g.T.Tree.state c.make_accounts.new.tree) c.make_accounts.ensures.ok

pub returns-in-Accounts-clause-new_messages : goal.returns-in-Accounts-clause-new_messages
returns-in-Accounts-clause-new_messages g c =
    accounts_new_messages c.args.options.now c.args.facts.now c.args.moment (g.T.Tree.state c.args.tree.now) (task_of c.args.options.now) (sym c.in-Accounts.is ∙ c.task_of.ensures) c.make_accounts.result c.args.messages.now c.make_accounts.new.messages c.make_accounts.ensures.new_messages

pub returns-in-Accounts-clause-end : goal.returns-in-Accounts-clause-end
returns-in-Accounts-clause-end g c =
    accounts_ended c.args.options.now c.args.facts.now c.args.moment (g.T.Tree.state c.args.tree.now) (task_of c.args.options.now) (sym c.in-Accounts.is ∙ c.task_of.ensures) c.make_accounts.result c.make_accounts.ensures.end

pub returns-in-Accounts-clause-staged : goal.returns-in-Accounts-clause-staged
returns-in-Accounts-clause-staged g c =
    accounts_staged c.args.options.now c.args.facts.now c.args.moment (g.T.Tree.state c.args.tree.now) (task_of c.args.options.now) (sym c.in-Accounts.is ∙ c.task_of.ensures) c.make_accounts.result (g.T.Tree.state c.make_accounts.new.tree) c.make_accounts.ensures.staged

pub returns-in-Accounts-clause-part : goal.returns-in-Accounts-clause-part
returns-in-Accounts-clause-part g c =
    accounts_part c.args.options.now c.args.facts.now c.args.moment (g.T.Tree.state c.args.tree.now) (task_of c.args.options.now) (sym c.in-Accounts.is ∙ c.task_of.ensures) c.args.messages.now c.make_accounts.new.messages c.make_accounts.ensures.part

pub returns-in-Accounts-clause-read : goal.returns-in-Accounts-clause-read
returns-in-Accounts-clause-read g c =
    λ failed. accounts_gone c.args.options.now c.args.facts.now c.args.moment (g.T.Tree.state c.args.tree.now) (task_of c.args.options.now) (sym c.in-Accounts.is ∙ c.task_of.ensures) 1 (drop (length (g.T.Tree.steps c.args.tree.now)) (g.T.Tree.steps c.make_accounts.new.tree)) c.args.messages.now c.make_accounts.new.messages (c.make_accounts.ensures.stopped failed)

pub returns-in-Accounts-clause-in_turn : goal.returns-in-Accounts-clause-in_turn
returns-in-Accounts-clause-in_turn g c =
    accounts_gone_ok c.args.options.now c.args.facts.now c.args.moment (g.T.Tree.state c.args.tree.now) (task_of c.args.options.now) (sym c.in-Accounts.is ∙ c.task_of.ensures) c.make_accounts.result (drop (length (g.T.Tree.steps c.args.tree.now)) (g.T.Tree.steps c.make_accounts.new.tree)) c.args.messages.now c.make_accounts.new.messages c.make_accounts.ensures.new_messages

pub returns-in-Accounts-clause-acted : goal.returns-in-Accounts-clause-acted
returns-in-Accounts-clause-acted g c =
    accounts_acted g.T.Tree c.args.options.now c.args.facts.now c.args.moment (g.T.Tree.state c.args.tree.now) (task_of c.args.options.now) (sym c.in-Accounts.is ∙ c.task_of.ensures) c.args.tree.now c.make_accounts.new.tree c.make_accounts.result c.make_accounts.ensures.acted

pub returns-in-Accounts-clause-recovers : goal.returns-in-Accounts-clause-recovers
returns-in-Accounts-clause-recovers g c =
    accounts_recovered c.args.options.now c.args.facts.now c.args.moment (g.T.Tree.state c.args.tree.now) (task_of c.args.options.now) (sym c.in-Accounts.is ∙ c.task_of.ensures) (drop (length (g.T.Tree.steps c.args.tree.now)) (g.T.Tree.steps c.make_accounts.new.tree)) c.make_accounts.ensures.recovers

pub returns-in-Accounts-clause-anew : goal.returns-in-Accounts-clause-anew
returns-in-Accounts-clause-anew g c =
    accounts_anew c.args.options.now c.args.facts.now c.args.moment (g.T.Tree.state c.args.tree.now) (task_of c.args.options.now) (sym c.in-Accounts.is ∙ c.task_of.ensures) (drop (length (g.T.Tree.steps c.args.tree.now)) (g.T.Tree.steps c.make_accounts.new.tree)) c.make_accounts.ensures.reread c.make_accounts.ensures.anew

pub returns-in-Accounts-clause-framed : goal.returns-in-Accounts-clause-framed
returns-in-Accounts-clause-framed g c =
    accounts_framed c.args.options.now c.args.facts.now c.args.moment (g.T.Tree.state c.args.tree.now) (task_of c.args.options.now) (sym c.in-Accounts.is ∙ c.task_of.ensures) (drop (length (g.T.Tree.steps c.args.tree.now)) (g.T.Tree.steps c.make_accounts.new.tree)) c.make_accounts.ensures.framed

pub returns-in_err-report_run-in-Report-clause-part : goal.returns-in_err-report_run-in-Report-clause-part
returns-in_err-report_run-in-Report-clause-part g c =
    report_part c.args.options.now c.args.facts.now c.args.moment (g.T.Tree.state c.args.tree.now) (task_of c.args.options.now) (sym c.in-Report.is ∙ c.task_of.ensures) c.args.messages.now c.report_run.new.messages c.report_run.ensures.part

pub returns-in_err-report_run-in-Report-clause-acted : goal.returns-in_err-report_run-in-Report-clause-acted
returns-in_err-report_run-in-Report-clause-acted g c =
    let moves : Moves g.T.Tree = record { stays = g.met.T.Tree.reaches_self; goes_on = g.met.T.Tree.reaches_on; never_falls = g.met.T.Tree.never_falls } in
    report_acted g.T.Tree c.args.options.now c.args.facts.now c.args.moment (g.T.Tree.state c.args.tree.now) (task_of c.args.options.now) (sym c.in-Report.is ∙ c.task_of.ensures) moves c.args.tree.now c.from_residual.result refl (no_memory c.from_residual.result c.from_residual.ensures.1)

pub returns-in_err-report_run-in-Report-clause-recovers : goal.returns-in_err-report_run-in-Report-clause-recovers
returns-in_err-report_run-in-Report-clause-recovers g c =
    report_recovered c.args.options.now c.args.facts.now c.args.moment (g.T.Tree.state c.args.tree.now) (task_of c.args.options.now) (sym c.in-Report.is ∙ c.task_of.ensures) (g.T.Tree.steps c.args.tree.now)

pub returns-in_err-report_run-in-Report-clause-anew : goal.returns-in_err-report_run-in-Report-clause-anew
returns-in_err-report_run-in-Report-clause-anew g c =
    report_anew c.args.options.now c.args.facts.now c.args.moment (g.T.Tree.state c.args.tree.now) (task_of c.args.options.now) (sym c.in-Report.is ∙ c.task_of.ensures) (drop (length (g.T.Tree.steps c.args.tree.now)) (g.T.Tree.steps c.args.tree.now))

pub returns-in_err-report_run-in-Report-clause-framed : goal.returns-in_err-report_run-in-Report-clause-framed
returns-in_err-report_run-in-Report-clause-framed g c =
    report_framed c.args.options.now c.args.facts.now c.args.moment (g.T.Tree.state c.args.tree.now) (task_of c.args.options.now) (sym c.in-Report.is ∙ c.task_of.ensures) (g.T.Tree.steps c.args.tree.now)

pub returns-in_ok-report_run-in-Report-clause-ok : goal.returns-in_ok-report_run-in-Report-clause-ok
returns-in_ok-report_run-in-Report-clause-ok g c =
    report_left c.args.options.now c.args.facts.now c.args.moment (g.T.Tree.state c.args.tree.now) (task_of c.args.options.now) (sym c.in-Report.is ∙ c.task_of.ensures)

pub returns-in_ok-report_run-in-Report-clause-new_messages : goal.returns-in_ok-report_run-in-Report-clause-new_messages
returns-in_ok-report_run-in-Report-clause-new_messages g c =
    report_new_messages c.args.options.now c.args.facts.now c.args.moment (g.T.Tree.state c.args.tree.now) (task_of c.args.options.now) (sym c.in-Report.is ∙ c.task_of.ensures) c.args.messages.now c.report_run.new.messages c.in_ok-report_run-in-Report.ensures.new_messages

pub returns-in_ok-report_run-in-Report-clause-in_turn : goal.returns-in_ok-report_run-in-Report-clause-in_turn
returns-in_ok-report_run-in-Report-clause-in_turn g c =
    report_gone c.args.options.now c.args.facts.now c.args.moment (g.T.Tree.state c.args.tree.now) (task_of c.args.options.now) (sym c.in-Report.is ∙ c.task_of.ensures) (g.T.Tree.steps c.args.tree.now) c.args.messages.now c.report_run.new.messages c.in_ok-report_run-in-Report.ensures.new_messages

pub returns-in_ok-report_run-in-Report-clause-end : goal.returns-in_ok-report_run-in-Report-clause-end
returns-in_ok-report_run-in-Report-clause-end g c =
    report_ended c.args.options.now c.args.facts.now c.args.moment (g.T.Tree.state c.args.tree.now) (task_of c.args.options.now) (sym c.in-Report.is ∙ c.task_of.ensures) c.in_ok-report_run-in-Report.field-0 c.in_ok-report_run-in-Report.ensures.end

pub returns-in_ok-report_run-in-Report-clause-staged : goal.returns-in_ok-report_run-in-Report-clause-staged
returns-in_ok-report_run-in-Report-clause-staged g c =
    report_staged c.args.options.now c.args.facts.now c.args.moment (g.T.Tree.state c.args.tree.now) (task_of c.args.options.now) (sym c.in-Report.is ∙ c.task_of.ensures) (g.T.Tree.state c.args.tree.now)

pub returns-in_ok-report_run-in-Report-clause-part : goal.returns-in_ok-report_run-in-Report-clause-part
returns-in_ok-report_run-in-Report-clause-part g c =
    report_part c.args.options.now c.args.facts.now c.args.moment (g.T.Tree.state c.args.tree.now) (task_of c.args.options.now) (sym c.in-Report.is ∙ c.task_of.ensures) c.args.messages.now c.report_run.new.messages c.report_run.ensures.part

pub returns-in_ok-report_run-in-Report-clause-acted : goal.returns-in_ok-report_run-in-Report-clause-acted
returns-in_ok-report_run-in-Report-clause-acted g c =
    let moves : Moves g.T.Tree = record { stays = g.met.T.Tree.reaches_self; goes_on = g.met.T.Tree.reaches_on; never_falls = g.met.T.Tree.never_falls } in
    report_acted g.T.Tree c.args.options.now c.args.facts.now c.args.moment (g.T.Tree.state c.args.tree.now) (task_of c.args.options.now) (sym c.in-Report.is ∙ c.task_of.ensures) moves c.args.tree.now _ refl refl

pub returns-in_ok-report_run-in-Report-clause-recovers : goal.returns-in_ok-report_run-in-Report-clause-recovers
returns-in_ok-report_run-in-Report-clause-recovers g c =
    report_recovered c.args.options.now c.args.facts.now c.args.moment (g.T.Tree.state c.args.tree.now) (task_of c.args.options.now) (sym c.in-Report.is ∙ c.task_of.ensures) (g.T.Tree.steps c.args.tree.now)

pub returns-in_ok-report_run-in-Report-clause-anew : goal.returns-in_ok-report_run-in-Report-clause-anew
returns-in_ok-report_run-in-Report-clause-anew g c =
    report_anew c.args.options.now c.args.facts.now c.args.moment (g.T.Tree.state c.args.tree.now) (task_of c.args.options.now) (sym c.in-Report.is ∙ c.task_of.ensures) (drop (length (g.T.Tree.steps c.args.tree.now)) (g.T.Tree.steps c.args.tree.now))

pub returns-in_ok-report_run-in-Report-clause-framed : goal.returns-in_ok-report_run-in-Report-clause-framed
returns-in_ok-report_run-in-Report-clause-framed g c =
    report_framed c.args.options.now c.args.facts.now c.args.moment (g.T.Tree.state c.args.tree.now) (task_of c.args.options.now) (sym c.in-Report.is ∙ c.task_of.ensures) (g.T.Tree.steps c.args.tree.now)

pub returns-in-Phases-clause-between : goal.returns-in-Phases-clause-between
returns-in-Phases-clause-between g c =
    phases_between c.args.options.now c.args.facts.now c.args.moment (g.T.Tree.state c.args.tree.now) (task_of c.args.options.now) (sym c.in-Phases.is ∙ c.task_of.ensures) (drop (length (g.T.Tree.steps c.args.tree.now)) (g.T.Tree.steps c.run_configured_phases.new.tree)) c.run_configured_phases.ensures.between c.run_configured_phases.ensures.gives

pub returns-in-Accounts-clause-between : goal.returns-in-Accounts-clause-between
returns-in-Accounts-clause-between g c =
    accounts_between c.args.options.now c.args.facts.now c.args.moment (g.T.Tree.state c.args.tree.now) (task_of c.args.options.now) (sym c.in-Accounts.is ∙ c.task_of.ensures) (drop (length (g.T.Tree.steps c.args.tree.now)) (g.T.Tree.steps c.make_accounts.new.tree))

pub returns-in_err-report_run-in-Report-clause-between : goal.returns-in_err-report_run-in-Report-clause-between
returns-in_err-report_run-in-Report-clause-between g c =
    report_between c.args.options.now c.args.facts.now c.args.moment (g.T.Tree.state c.args.tree.now) (task_of c.args.options.now) (sym c.in-Report.is ∙ c.task_of.ensures) (drop (length (g.T.Tree.steps c.args.tree.now)) (g.T.Tree.steps c.args.tree.now))

pub returns-in_ok-report_run-in-Report-clause-between : goal.returns-in_ok-report_run-in-Report-clause-between
returns-in_ok-report_run-in-Report-clause-between g c =
    report_between c.args.options.now c.args.facts.now c.args.moment (g.T.Tree.state c.args.tree.now) (task_of c.args.options.now) (sym c.in-Report.is ∙ c.task_of.ensures) (drop (length (g.T.Tree.steps c.args.tree.now)) (g.T.Tree.steps c.args.tree.now))

pub returns-in_err-explain_run-in-Explain-clause-part : goal.returns-in_err-explain_run-in-Explain-clause-part
returns-in_err-explain_run-in-Explain-clause-part g c =
    explain_part c.args.options.now c.args.facts.now c.args.moment (g.T.Tree.state c.args.tree.now) (task_of c.args.options.now) (sym c.in-Explain.is ∙ c.task_of.ensures) c.args.messages.now c.explain_run.new.messages c.explain_run.ensures.part

pub returns-in_err-explain_run-in-Explain-clause-acted : goal.returns-in_err-explain_run-in-Explain-clause-acted
returns-in_err-explain_run-in-Explain-clause-acted g c =
    let moves : Moves g.T.Tree = record { stays = g.met.T.Tree.reaches_self; goes_on = g.met.T.Tree.reaches_on; never_falls = g.met.T.Tree.never_falls } in
    explain_acted g.T.Tree c.args.options.now c.args.facts.now c.args.moment (g.T.Tree.state c.args.tree.now) (task_of c.args.options.now) (sym c.in-Explain.is ∙ c.task_of.ensures) moves c.args.tree.now c.from_residual-in_err-explain_run-in-Explain.result refl (no_memory c.from_residual-in_err-explain_run-in-Explain.result c.from_residual-in_err-explain_run-in-Explain.ensures.1)

pub returns-in_err-explain_run-in-Explain-clause-recovers : goal.returns-in_err-explain_run-in-Explain-clause-recovers
returns-in_err-explain_run-in-Explain-clause-recovers g c =
    explain_recovered c.args.options.now c.args.facts.now c.args.moment (g.T.Tree.state c.args.tree.now) (task_of c.args.options.now) (sym c.in-Explain.is ∙ c.task_of.ensures) (g.T.Tree.steps c.args.tree.now)

pub returns-in_err-explain_run-in-Explain-clause-anew : goal.returns-in_err-explain_run-in-Explain-clause-anew
returns-in_err-explain_run-in-Explain-clause-anew g c =
    explain_anew c.args.options.now c.args.facts.now c.args.moment (g.T.Tree.state c.args.tree.now) (task_of c.args.options.now) (sym c.in-Explain.is ∙ c.task_of.ensures) (drop (length (g.T.Tree.steps c.args.tree.now)) (g.T.Tree.steps c.args.tree.now))

pub returns-in_err-explain_run-in-Explain-clause-framed : goal.returns-in_err-explain_run-in-Explain-clause-framed
returns-in_err-explain_run-in-Explain-clause-framed g c =
    explain_framed c.args.options.now c.args.facts.now c.args.moment (g.T.Tree.state c.args.tree.now) (task_of c.args.options.now) (sym c.in-Explain.is ∙ c.task_of.ensures) (g.T.Tree.steps c.args.tree.now)

pub returns-in_ok-explain_run-in-Explain-clause-ok : goal.returns-in_ok-explain_run-in-Explain-clause-ok
returns-in_ok-explain_run-in-Explain-clause-ok g c =
    explain_left c.args.options.now c.args.facts.now c.args.moment (g.T.Tree.state c.args.tree.now) (task_of c.args.options.now) (sym c.in-Explain.is ∙ c.task_of.ensures)

pub returns-in_ok-explain_run-in-Explain-clause-new_messages : goal.returns-in_ok-explain_run-in-Explain-clause-new_messages
returns-in_ok-explain_run-in-Explain-clause-new_messages g c =
    explain_messages c.args.options.now c.args.facts.now c.args.moment (g.T.Tree.state c.args.tree.now) (task_of c.args.options.now) (sym c.in-Explain.is ∙ c.task_of.ensures) c.args.messages.now c.explain_run.new.messages c.in_ok-explain_run-in-Explain.ensures.new_messages

pub returns-in_ok-explain_run-in-Explain-clause-in_turn : goal.returns-in_ok-explain_run-in-Explain-clause-in_turn
returns-in_ok-explain_run-in-Explain-clause-in_turn g c =
    explain_gone c.args.options.now c.args.facts.now c.args.moment (g.T.Tree.state c.args.tree.now) (task_of c.args.options.now) (sym c.in-Explain.is ∙ c.task_of.ensures) (g.T.Tree.steps c.args.tree.now) c.args.messages.now c.explain_run.new.messages c.in_ok-explain_run-in-Explain.ensures.new_messages

pub returns-in_ok-explain_run-in-Explain-clause-end : goal.returns-in_ok-explain_run-in-Explain-clause-end
returns-in_ok-explain_run-in-Explain-clause-end g c =
    explain_ended c.args.options.now c.args.facts.now c.args.moment (g.T.Tree.state c.args.tree.now) (task_of c.args.options.now) (sym c.in-Explain.is ∙ c.task_of.ensures) c.in_ok-explain_run-in-Explain.field-0 c.in_ok-explain_run-in-Explain.ensures.end

pub returns-in_ok-explain_run-in-Explain-clause-staged : goal.returns-in_ok-explain_run-in-Explain-clause-staged
returns-in_ok-explain_run-in-Explain-clause-staged g c =
    explain_staged c.args.options.now c.args.facts.now c.args.moment (g.T.Tree.state c.args.tree.now) (task_of c.args.options.now) (sym c.in-Explain.is ∙ c.task_of.ensures) (g.T.Tree.state c.args.tree.now)

pub returns-in_ok-explain_run-in-Explain-clause-part : goal.returns-in_ok-explain_run-in-Explain-clause-part
returns-in_ok-explain_run-in-Explain-clause-part g c =
    explain_part c.args.options.now c.args.facts.now c.args.moment (g.T.Tree.state c.args.tree.now) (task_of c.args.options.now) (sym c.in-Explain.is ∙ c.task_of.ensures) c.args.messages.now c.explain_run.new.messages c.explain_run.ensures.part

pub returns-in_ok-explain_run-in-Explain-clause-acted : goal.returns-in_ok-explain_run-in-Explain-clause-acted
returns-in_ok-explain_run-in-Explain-clause-acted g c =
    let moves : Moves g.T.Tree = record { stays = g.met.T.Tree.reaches_self; goes_on = g.met.T.Tree.reaches_on; never_falls = g.met.T.Tree.never_falls } in
    explain_acted g.T.Tree c.args.options.now c.args.facts.now c.args.moment (g.T.Tree.state c.args.tree.now) (task_of c.args.options.now) (sym c.in-Explain.is ∙ c.task_of.ensures) moves c.args.tree.now _ refl refl

pub returns-in_ok-explain_run-in-Explain-clause-recovers : goal.returns-in_ok-explain_run-in-Explain-clause-recovers
returns-in_ok-explain_run-in-Explain-clause-recovers g c =
    explain_recovered c.args.options.now c.args.facts.now c.args.moment (g.T.Tree.state c.args.tree.now) (task_of c.args.options.now) (sym c.in-Explain.is ∙ c.task_of.ensures) (g.T.Tree.steps c.args.tree.now)

pub returns-in_ok-explain_run-in-Explain-clause-anew : goal.returns-in_ok-explain_run-in-Explain-clause-anew
returns-in_ok-explain_run-in-Explain-clause-anew g c =
    explain_anew c.args.options.now c.args.facts.now c.args.moment (g.T.Tree.state c.args.tree.now) (task_of c.args.options.now) (sym c.in-Explain.is ∙ c.task_of.ensures) (drop (length (g.T.Tree.steps c.args.tree.now)) (g.T.Tree.steps c.args.tree.now))

pub returns-in_ok-explain_run-in-Explain-clause-framed : goal.returns-in_ok-explain_run-in-Explain-clause-framed
returns-in_ok-explain_run-in-Explain-clause-framed g c =
    explain_framed c.args.options.now c.args.facts.now c.args.moment (g.T.Tree.state c.args.tree.now) (task_of c.args.options.now) (sym c.in-Explain.is ∙ c.task_of.ensures) (g.T.Tree.steps c.args.tree.now)

pub explain_run-requires : goal.explain_run-requires
explain_run-requires g c = record { asked = explain_path c.args.options.now (sym c.in-Explain.is ∙ c.task_of.ensures) }

pub returns-in_err-explain_run-in-Explain-clause-between : goal.returns-in_err-explain_run-in-Explain-clause-between
returns-in_err-explain_run-in-Explain-clause-between g c =
    explain_between c.args.options.now c.args.facts.now c.args.moment (g.T.Tree.state c.args.tree.now) (task_of c.args.options.now) (sym c.in-Explain.is ∙ c.task_of.ensures) (drop (length (g.T.Tree.steps c.args.tree.now)) (g.T.Tree.steps c.args.tree.now))

pub returns-in_ok-explain_run-in-Explain-clause-between : goal.returns-in_ok-explain_run-in-Explain-clause-between
returns-in_ok-explain_run-in-Explain-clause-between g c =
    explain_between c.args.options.now c.args.facts.now c.args.moment (g.T.Tree.state c.args.tree.now) (task_of c.args.options.now) (sym c.in-Explain.is ∙ c.task_of.ensures) (drop (length (g.T.Tree.steps c.args.tree.now)) (g.T.Tree.steps c.args.tree.now))
