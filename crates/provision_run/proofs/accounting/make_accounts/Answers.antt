use Rattle.std.proofs.Common.{List, drop, inl, length, refl, subst}
use Rattle.pv_sysusers.specs.Accounted.{edits_at}
use Rattle.pv_sysusers.specs.FileWriting.{AccountWay, IsAccountStep}
use Rattle.pv_sysusers.proofs.RecoveryLaws.{none_recovered, run_recovered}
use Rattle.pv_sysusers.proofs.SweptLaws.{accounts_leave_none}
use Rattle.pv_walk.proofs.EditLaws.{same-refl}
use Rattle.pv_requests.specs.declared.request.Request.{Request}
use Rattle.pv_steps.specs.Runs.{Ran}
use Rattle.pv_steps.specs.Trees.{places}
use Rattle.pv_steps.proofs.ActingLaws.{Moves, acted_none, no_memory}
use Rattle.provision_run.specs.Accounts.{accounts_work, account_messages, requests_messages, run_edits, run_requests}
use Rattle.provision_run.proofs.FrameLaws.{none_stays, requests_framed}
use Rattle.provision_run.proofs.AccountRereading.{accounts_recovered_anew, no_requests_reread, requests_reread}
use Rattle.provision_run.proofs.AccountLaws.{Finished, ended_acted, ended_end, ended_ok, ended_part, ended_messages, ended_stopped}
use Rattle.pv_text.proofs.MessagesLaws.{messages_first}
use Rattle.provision_run.proofs.accounting.make_accounts.Goals as goal

pub returns-in_err-read-clause-part : goal.returns-in_err-read-clause-part
returns-in_err-read-clause-part g c =
    messages_first (requests_messages c.args.options.now c.args.facts.now (g.T.Tree.state c.args.tree.now)) (account_messages c.args.options.now c.args.facts.now c.args.moment (g.T.Tree.state c.args.tree.now)) _ _ c.read_requests.ensures.part

pub returns-in_err-read-clause-acted : goal.returns-in_err-read-clause-acted
returns-in_err-read-clause-acted g c =
    let moves : Moves g.T.Tree = record { stays = g.met.T.Tree.reaches_self; goes_on = g.met.T.Tree.reaches_on; never_falls = g.met.T.Tree.never_falls } in
    let t = g.T.Tree.state c.args.tree.now in
    let edits = run_edits c.args.options.now c.args.facts.now c.args.moment t in
    acted_none g.T.Tree moves (AccountWay edits t) (IsAccountStep edits t) (accounts_work c.args.options.now c.args.facts.now c.args.moment t) c.args.moment c.args.tree.now
    c.from_residual.result (no_memory c.from_residual.result c.from_residual.ensures.1) (inl (same-refl t))

pub returns-in_err-read-clause-recovers : goal.returns-in_err-read-clause-recovers
returns-in_err-read-clause-recovers g c =
    let t = g.T.Tree.state c.args.tree.now in
    none_recovered (run_requests c.args.options.now c.args.facts.now t) c.args.moment c.ranges.moment.fits t (g.T.Tree.steps c.args.tree.now) (g.met.T.Tree.is_tree c.args.tree.now)

pub returns-clause-ok : goal.returns-clause-ok
returns-clause-ok g c =
    let tree = g.T.Tree in
    let a = c.args.tree.now in
    let b = c.accounts_run-answer.new.tree in
    let finished : Finished tree (run_requests c.args.options.now c.args.facts.now (tree.state a)) c.args.moment a b c.read_requests.new.messages c.accounts_run-answer.new.messages c.accounts_run-answer.result =
    subst (λ (rs : List Request). Finished tree rs c.args.moment a b c.read_requests.new.messages c.accounts_run-answer.new.messages c.accounts_run-answer.result) c.in_ok-read.ensures.lines (record {
      ok = c.accounts_run-answer.ensures.ok;
      new_messages = c.accounts_run-answer.ensures.new_messages;
      carried = c.accounts_run-answer.ensures.carried;
      enough = c.accounts_run-answer.ensures.enough;
      lacking = c.accounts_run-answer.ensures.lacking;
      lacking_messages = c.accounts_run-answer.ensures.lacking_messages;
      lacking_idle = c.accounts_run-answer.ensures.lacking_idle;
      failed_enough = c.accounts_run-answer.ensures.failed_enough;
      failed_messages = c.accounts_run-answer.ensures.failed_messages;
      part = c.accounts_run-answer.ensures.part;
      acted = c.accounts_run-answer.ensures.acted;
    }) in
    ended_ok tree c.args.options.now c.args.facts.now c.args.moment a b c.args.messages.now c.read_requests.new.messages c.accounts_run-answer.new.messages c.ended.new.messages c.in_ok-read.read.missing c.in_ok-read.read.invalid
    c.in_ok-read.ensures.new_messages c.accounts_run-answer.result c.ended.result finished c.ended.ensures

pub returns-clause-staged : goal.returns-clause-staged
returns-clause-staged g c =
    let tree = g.T.Tree in
    let a = c.args.tree.now in
    let b = c.accounts_run-answer.new.tree in
    let finished : Finished tree (run_requests c.args.options.now c.args.facts.now (tree.state a)) c.args.moment a b c.read_requests.new.messages c.accounts_run-answer.new.messages c.accounts_run-answer.result =
    subst (λ (rs : List Request). Finished tree rs c.args.moment a b c.read_requests.new.messages c.accounts_run-answer.new.messages c.accounts_run-answer.result) c.in_ok-read.ensures.lines (record {
      ok = c.accounts_run-answer.ensures.ok;
      new_messages = c.accounts_run-answer.ensures.new_messages;
      carried = c.accounts_run-answer.ensures.carried;
      enough = c.accounts_run-answer.ensures.enough;
      lacking = c.accounts_run-answer.ensures.lacking;
      lacking_messages = c.accounts_run-answer.ensures.lacking_messages;
      lacking_idle = c.accounts_run-answer.ensures.lacking_idle;
      failed_enough = c.accounts_run-answer.ensures.failed_enough;
      failed_messages = c.accounts_run-answer.ensures.failed_messages;
      part = c.accounts_run-answer.ensures.part;
      acted = c.accounts_run-answer.ensures.acted;
    }) in
    accounts_leave_none (run_requests c.args.options.now c.args.facts.now (tree.state a)) c.args.moment (tree.state a) (g.met.T.Tree.is_tree c.args.tree.now) c.ended.result (tree.state b)
    (ended_ok tree c.args.options.now c.args.facts.now c.args.moment a b c.args.messages.now c.read_requests.new.messages c.accounts_run-answer.new.messages c.ended.new.messages c.in_ok-read.read.missing c.in_ok-read.read.invalid
    c.in_ok-read.ensures.new_messages c.accounts_run-answer.result c.ended.result finished c.ended.ensures)

pub returns-clause-new_messages : goal.returns-clause-new_messages
returns-clause-new_messages g c =
    let tree = g.T.Tree in
    let a = c.args.tree.now in
    let b = c.accounts_run-answer.new.tree in
    let finished : Finished tree (run_requests c.args.options.now c.args.facts.now (tree.state a)) c.args.moment a b c.read_requests.new.messages c.accounts_run-answer.new.messages c.accounts_run-answer.result =
    subst (λ (rs : List Request). Finished tree rs c.args.moment a b c.read_requests.new.messages c.accounts_run-answer.new.messages c.accounts_run-answer.result) c.in_ok-read.ensures.lines (record {
      ok = c.accounts_run-answer.ensures.ok;
      new_messages = c.accounts_run-answer.ensures.new_messages;
      carried = c.accounts_run-answer.ensures.carried;
      enough = c.accounts_run-answer.ensures.enough;
      lacking = c.accounts_run-answer.ensures.lacking;
      lacking_messages = c.accounts_run-answer.ensures.lacking_messages;
      lacking_idle = c.accounts_run-answer.ensures.lacking_idle;
      failed_enough = c.accounts_run-answer.ensures.failed_enough;
      failed_messages = c.accounts_run-answer.ensures.failed_messages;
      part = c.accounts_run-answer.ensures.part;
      acted = c.accounts_run-answer.ensures.acted;
    }) in
    ended_messages tree c.args.options.now c.args.facts.now c.args.moment a b c.args.messages.now c.read_requests.new.messages c.accounts_run-answer.new.messages c.ended.new.messages c.in_ok-read.read.missing c.in_ok-read.read.invalid
    c.in_ok-read.ensures.new_messages c.accounts_run-answer.result c.ended.result finished c.ended.ensures

pub returns-clause-end : goal.returns-clause-end
returns-clause-end g c =
    let tree = g.T.Tree in
    let a = c.args.tree.now in
    let b = c.accounts_run-answer.new.tree in
    let finished : Finished tree (run_requests c.args.options.now c.args.facts.now (tree.state a)) c.args.moment a b c.read_requests.new.messages c.accounts_run-answer.new.messages c.accounts_run-answer.result =
    subst (λ (rs : List Request). Finished tree rs c.args.moment a b c.read_requests.new.messages c.accounts_run-answer.new.messages c.accounts_run-answer.result) c.in_ok-read.ensures.lines (record {
      ok = c.accounts_run-answer.ensures.ok;
      new_messages = c.accounts_run-answer.ensures.new_messages;
      carried = c.accounts_run-answer.ensures.carried;
      enough = c.accounts_run-answer.ensures.enough;
      lacking = c.accounts_run-answer.ensures.lacking;
      lacking_messages = c.accounts_run-answer.ensures.lacking_messages;
      lacking_idle = c.accounts_run-answer.ensures.lacking_idle;
      failed_enough = c.accounts_run-answer.ensures.failed_enough;
      failed_messages = c.accounts_run-answer.ensures.failed_messages;
      part = c.accounts_run-answer.ensures.part;
      acted = c.accounts_run-answer.ensures.acted;
    }) in
    ended_end tree c.args.options.now c.args.facts.now c.args.moment a b c.args.messages.now c.read_requests.new.messages c.accounts_run-answer.new.messages c.ended.new.messages c.in_ok-read.read.missing c.in_ok-read.read.invalid
    c.accounts_run-answer.result c.ended.result c.in_ok-read.ensures.missing c.in_ok-read.ensures.invalid finished c.ended.ensures

pub returns-clause-part : goal.returns-clause-part
returns-clause-part g c =
    let tree = g.T.Tree in
    let a = c.args.tree.now in
    let b = c.accounts_run-answer.new.tree in
    let finished : Finished tree (run_requests c.args.options.now c.args.facts.now (tree.state a)) c.args.moment a b c.read_requests.new.messages c.accounts_run-answer.new.messages c.accounts_run-answer.result =
    subst (λ (rs : List Request). Finished tree rs c.args.moment a b c.read_requests.new.messages c.accounts_run-answer.new.messages c.accounts_run-answer.result) c.in_ok-read.ensures.lines (record {
      ok = c.accounts_run-answer.ensures.ok;
      new_messages = c.accounts_run-answer.ensures.new_messages;
      carried = c.accounts_run-answer.ensures.carried;
      enough = c.accounts_run-answer.ensures.enough;
      lacking = c.accounts_run-answer.ensures.lacking;
      lacking_messages = c.accounts_run-answer.ensures.lacking_messages;
      lacking_idle = c.accounts_run-answer.ensures.lacking_idle;
      failed_enough = c.accounts_run-answer.ensures.failed_enough;
      failed_messages = c.accounts_run-answer.ensures.failed_messages;
      part = c.accounts_run-answer.ensures.part;
      acted = c.accounts_run-answer.ensures.acted;
    }) in
    ended_part tree c.args.options.now c.args.facts.now c.args.moment a b c.args.messages.now c.read_requests.new.messages c.accounts_run-answer.new.messages c.ended.new.messages c.in_ok-read.read.missing c.in_ok-read.read.invalid
    c.in_ok-read.ensures.new_messages c.accounts_run-answer.result c.ended.result finished c.ended.ensures

pub returns-clause-stopped : goal.returns-clause-stopped
returns-clause-stopped g c =
    let tree = g.T.Tree in
    let a = c.args.tree.now in
    let b = c.accounts_run-answer.new.tree in
    let finished : Finished tree (run_requests c.args.options.now c.args.facts.now (tree.state a)) c.args.moment a b c.read_requests.new.messages c.accounts_run-answer.new.messages c.accounts_run-answer.result =
    subst (λ (rs : List Request). Finished tree rs c.args.moment a b c.read_requests.new.messages c.accounts_run-answer.new.messages c.accounts_run-answer.result) c.in_ok-read.ensures.lines (record {
      ok = c.accounts_run-answer.ensures.ok;
      new_messages = c.accounts_run-answer.ensures.new_messages;
      carried = c.accounts_run-answer.ensures.carried;
      enough = c.accounts_run-answer.ensures.enough;
      lacking = c.accounts_run-answer.ensures.lacking;
      lacking_messages = c.accounts_run-answer.ensures.lacking_messages;
      lacking_idle = c.accounts_run-answer.ensures.lacking_idle;
      failed_enough = c.accounts_run-answer.ensures.failed_enough;
      failed_messages = c.accounts_run-answer.ensures.failed_messages;
      part = c.accounts_run-answer.ensures.part;
      acted = c.accounts_run-answer.ensures.acted;
    }) in
    ended_stopped tree c.args.options.now c.args.facts.now c.args.moment a b c.args.messages.now c.read_requests.new.messages c.accounts_run-answer.new.messages c.ended.new.messages c.in_ok-read.read.missing c.in_ok-read.read.invalid
    c.in_ok-read.ensures.new_messages c.accounts_run-answer.result c.ended.result finished c.ended.ensures

pub returns-clause-acted : goal.returns-clause-acted
returns-clause-acted g c =
    let tree = g.T.Tree in
    let a = c.args.tree.now in
    let b = c.accounts_run-answer.new.tree in
    let finished : Finished tree (run_requests c.args.options.now c.args.facts.now (tree.state a)) c.args.moment a b c.read_requests.new.messages c.accounts_run-answer.new.messages c.accounts_run-answer.result =
    subst (λ (rs : List Request). Finished tree rs c.args.moment a b c.read_requests.new.messages c.accounts_run-answer.new.messages c.accounts_run-answer.result) c.in_ok-read.ensures.lines (record {
      ok = c.accounts_run-answer.ensures.ok;
      new_messages = c.accounts_run-answer.ensures.new_messages;
      carried = c.accounts_run-answer.ensures.carried;
      enough = c.accounts_run-answer.ensures.enough;
      lacking = c.accounts_run-answer.ensures.lacking;
      lacking_messages = c.accounts_run-answer.ensures.lacking_messages;
      lacking_idle = c.accounts_run-answer.ensures.lacking_idle;
      failed_enough = c.accounts_run-answer.ensures.failed_enough;
      failed_messages = c.accounts_run-answer.ensures.failed_messages;
      part = c.accounts_run-answer.ensures.part;
      acted = c.accounts_run-answer.ensures.acted;
    }) in
    ended_acted tree c.accounts_run-answer.new.messages c.ended.new.messages c.in_ok-read.read.missing c.in_ok-read.read.invalid c.accounts_run-answer.result c.ended.result c.ended.ensures finished.acted

pub returns-clause-recovers : goal.returns-clause-recovers
returns-clause-recovers g c =
    let tree = g.T.Tree in
    let a = c.args.tree.now in
    let b = c.accounts_run-answer.new.tree in
    let finished : Finished tree (run_requests c.args.options.now c.args.facts.now (tree.state a)) c.args.moment a b c.read_requests.new.messages c.accounts_run-answer.new.messages c.accounts_run-answer.result =
    subst (λ (rs : List Request). Finished tree rs c.args.moment a b c.read_requests.new.messages c.accounts_run-answer.new.messages c.accounts_run-answer.result) c.in_ok-read.ensures.lines (record {
      ok = c.accounts_run-answer.ensures.ok;
      new_messages = c.accounts_run-answer.ensures.new_messages;
      carried = c.accounts_run-answer.ensures.carried;
      enough = c.accounts_run-answer.ensures.enough;
      lacking = c.accounts_run-answer.ensures.lacking;
      lacking_messages = c.accounts_run-answer.ensures.lacking_messages;
      lacking_idle = c.accounts_run-answer.ensures.lacking_idle;
      failed_enough = c.accounts_run-answer.ensures.failed_enough;
      failed_messages = c.accounts_run-answer.ensures.failed_messages;
      part = c.accounts_run-answer.ensures.part;
      acted = c.accounts_run-answer.ensures.acted;
    }) in
    run_recovered (run_requests c.args.options.now c.args.facts.now (tree.state a)) c.args.moment c.ranges.moment.fits (run_edits c.args.options.now c.args.facts.now c.args.moment (tree.state a)) _ (tree.state a) (tree.steps a) (tree.state b) (tree.steps b)
    (g.met.T.Tree.is_tree c.args.tree.now) refl finished.acted.ran

pub returns-in_err-read-clause-reread : goal.returns-in_err-read-clause-reread
returns-in_err-read-clause-reread g c = no_requests_reread c.args.options.now c.args.facts.now c.args.moment (g.T.Tree.state c.args.tree.now) (g.T.Tree.steps c.args.tree.now)

pub returns-in_err-read-clause-anew : goal.returns-in_err-read-clause-anew
returns-in_err-read-clause-anew g c =
    let t = g.T.Tree.state c.args.tree.now in
    let stated = g.T.Tree.steps c.args.tree.now in
    accounts_recovered_anew c.args.options.now c.args.facts.now c.args.moment t (drop (length stated) stated) (no_requests_reread c.args.options.now c.args.facts.now c.args.moment t stated)
    (none_recovered (run_requests c.args.options.now c.args.facts.now t) c.args.moment c.ranges.moment.fits t stated (g.met.T.Tree.is_tree c.args.tree.now))

pub returns-clause-reread : goal.returns-clause-reread
returns-clause-reread g c =
    let tree = g.T.Tree in
    let a = c.args.tree.now in
    let b = c.accounts_run-answer.new.tree in
    let finished : Finished tree (run_requests c.args.options.now c.args.facts.now (tree.state a)) c.args.moment a b c.read_requests.new.messages c.accounts_run-answer.new.messages c.accounts_run-answer.result =
    subst (λ (rs : List Request). Finished tree rs c.args.moment a b c.read_requests.new.messages c.accounts_run-answer.new.messages c.accounts_run-answer.result) c.in_ok-read.ensures.lines (record {
      ok = c.accounts_run-answer.ensures.ok;
      new_messages = c.accounts_run-answer.ensures.new_messages;
      carried = c.accounts_run-answer.ensures.carried;
      enough = c.accounts_run-answer.ensures.enough;
      lacking = c.accounts_run-answer.ensures.lacking;
      lacking_messages = c.accounts_run-answer.ensures.lacking_messages;
      lacking_idle = c.accounts_run-answer.ensures.lacking_idle;
      failed_enough = c.accounts_run-answer.ensures.failed_enough;
      failed_messages = c.accounts_run-answer.ensures.failed_messages;
      part = c.accounts_run-answer.ensures.part;
      acted = c.accounts_run-answer.ensures.acted;
    }) in
    requests_reread c.args.options.now c.args.facts.now c.args.moment (tree.state a) c.ranges.moment.fits (g.met.T.Tree.is_tree c.args.tree.now) (tree.steps a) (tree.state b) (tree.steps b) finished.acted.ran

pub returns-clause-anew : goal.returns-clause-anew
returns-clause-anew g c =
    let tree = g.T.Tree in
    let a = c.args.tree.now in
    let b = c.accounts_run-answer.new.tree in
    let finished : Finished tree (run_requests c.args.options.now c.args.facts.now (tree.state a)) c.args.moment a b c.read_requests.new.messages c.accounts_run-answer.new.messages c.accounts_run-answer.result =
    subst (λ (rs : List Request). Finished tree rs c.args.moment a b c.read_requests.new.messages c.accounts_run-answer.new.messages c.accounts_run-answer.result) c.in_ok-read.ensures.lines (record {
      ok = c.accounts_run-answer.ensures.ok;
      new_messages = c.accounts_run-answer.ensures.new_messages;
      carried = c.accounts_run-answer.ensures.carried;
      enough = c.accounts_run-answer.ensures.enough;
      lacking = c.accounts_run-answer.ensures.lacking;
      lacking_messages = c.accounts_run-answer.ensures.lacking_messages;
      lacking_idle = c.accounts_run-answer.ensures.lacking_idle;
      failed_enough = c.accounts_run-answer.ensures.failed_enough;
      failed_messages = c.accounts_run-answer.ensures.failed_messages;
      part = c.accounts_run-answer.ensures.part;
      acted = c.accounts_run-answer.ensures.acted;
    }) in
    accounts_recovered_anew c.args.options.now c.args.facts.now c.args.moment (tree.state a) (drop (length (tree.steps a)) (tree.steps b))
    (requests_reread c.args.options.now c.args.facts.now c.args.moment (tree.state a) c.ranges.moment.fits (g.met.T.Tree.is_tree c.args.tree.now) (tree.steps a) (tree.state b) (tree.steps b) finished.acted.ran)
    (run_recovered (run_requests c.args.options.now c.args.facts.now (tree.state a)) c.args.moment c.ranges.moment.fits (run_edits c.args.options.now c.args.facts.now c.args.moment (tree.state a)) _ (tree.state a) (tree.steps a) (tree.state b) (tree.steps b)
    (g.met.T.Tree.is_tree c.args.tree.now) refl finished.acted.ran)

pub returns-in_err-read-clause-framed : goal.returns-in_err-read-clause-framed
returns-in_err-read-clause-framed g c = λ n q plain off far. none_stays c.args.moment (g.T.Tree.state c.args.tree.now) (g.T.Tree.steps c.args.tree.now) n q

pub returns-clause-framed : goal.returns-clause-framed
returns-clause-framed g c =
    let t = g.T.Tree.state c.args.tree.now in
    let now = c.args.moment in
    let requests = run_requests c.args.options.now c.args.facts.now t in
    let h = g.T.Tree.steps c.args.tree.now in
    let u = g.T.Tree.state c.accounts_run-answer.new.tree in
    let k = g.T.Tree.steps c.accounts_run-answer.new.tree in
    requests_framed requests now (IsAccountStep (edits_at requests now (places t)) t) t h u k (g.met.T.Tree.is_tree c.args.tree.now)
    (subst (λ (rs : List Request). Ran (AccountWay (edits_at rs now (places t)) t) (IsAccountStep (edits_at rs now (places t)) t) now t h u k) c.in_ok-read.ensures.lines c.accounts_run-answer.ensures.acted.ran)
