use Rattle.std.proofs.Common.{ℕ, List, ◌++◌, ap, ◌∙◌}
use Rattle.std.specs.List.{flat_map}
use Rattle.std.proofs.lemmas.Result.{err_from_is_err_and, IfOk-from_err}
use Rattle.pv_accounts.specs.InUse.{Ids}
use Rattle.pv_sysusers.specs.Lines.{Line}
use Rattle.pv_sysusers.specs.Planning.{files_of, numbers_in}
use Rattle.pv_sysusers.specs.Plans.{AccountFiles, Numbers, needs_by, numbers_of, texts_by}
use Rattle.pv_sysusers.specs.Shown.{shown}
use Rattle.pv_sysusers.specs.Texts.{membership_of}
use Rattle.pv_sysusers.proofs.PlanLaws.{numbers_same, plan_lacking, plan_whole, told_same, memory_misses, memory_owes}
use Rattle.pv_sysusers.proofs.planned.plan_of.Goals as goal

pub returns-in_err-numbers-clause-lacking : goal.returns-in_err-numbers-clause-lacking
returns-in_err-numbers-clause-lacking c =
    let p = err_from_is_err_and c.from_residual-in_err-numbers.result c.from_residual-in_err-numbers.ensures.1 in
    let files : AccountFiles = files_of c.args.files.now in
    let lines : List Line = shown c.args.lines.now.kept.items in
    let numbers : Numbers = numbers_in c.in_ok-wanted.wanted c.in_ok-users.users c.in_ok-groups.groups in
    let is = numbers_same files lines c.in_ok-wanted.wanted c.in_ok-users.users c.in_ok-groups.groups c.in_ok-users.ensures c.in_ok-groups.ensures c.in_ok-wanted.ensures in
    rw (p.1, p.2) (plan_lacking files lines c.args.day numbers c.in_err-numbers.field-0.0 is c.in_err-numbers.ensures.lacking)

pub returns-in_err-numbers-clause-new_messages : goal.returns-in_err-numbers-clause-new_messages
returns-in_err-numbers-clause-new_messages c =
    let p = err_from_is_err_and c.from_residual-in_err-numbers.result c.from_residual-in_err-numbers.ensures.1 in
    let files : AccountFiles = files_of c.args.files.now in
    let lines : List Line = shown c.args.lines.now.kept.items in
    let numbers : Numbers = numbers_in c.in_ok-wanted.wanted c.in_ok-users.users c.in_ok-groups.groups in
    let is = numbers_same files lines c.in_ok-wanted.wanted c.in_ok-users.users c.in_ok-groups.groups c.in_ok-users.ensures c.in_ok-groups.ensures c.in_ok-wanted.ensures in
    rw (p.1, p.2) (told_same c.in_err-numbers.field-0.0 c.decided_numbers.new.new_messages c.args.new_messages.now numbers.new_messages (numbers_of files lines).new_messages (ap (λ (n : Numbers). n.new_messages) is) c.in_err-numbers.ensures.new_messages)

pub returns-clause-texts : goal.returns-clause-texts
returns-clause-texts c =
    let files : AccountFiles = files_of c.args.files.now in
    let lines : List Line = shown c.args.lines.now.kept.items in
    let numbers : Numbers = numbers_in c.in_ok-wanted.wanted c.in_ok-users.users c.in_ok-groups.groups in
    let is = numbers_same files lines c.in_ok-wanted.wanted c.in_ok-users.users c.in_ok-groups.groups c.in_ok-users.ensures c.in_ok-groups.ensures c.in_ok-wanted.ensures in
    let made = c.in_ok-numbers.ensures.made in
    let needs = c.deref.ensures.value ∙ c.in_ok-wanted.ensures.needs ∙ ap (λ (us : Ids). needs_by us lines) c.in_ok-users.ensures in
    let kept = c.deref-2.ensures.value in
    plan_whole files lines c.args.day numbers c.in_ok-texts.texts is made.whole
    (c.in_ok-texts.ensures ∙ (λ j. texts_by files (needs j) (flat_map membership_of (shown (kept j))) c.args.day (made.groups j) (made.users j)))

pub returns-clause-new_messages : goal.returns-clause-new_messages
returns-clause-new_messages c =
    let files : AccountFiles = files_of c.args.files.now in
    let lines : List Line = shown c.args.lines.now.kept.items in
    let numbers : Numbers = numbers_in c.in_ok-wanted.wanted c.in_ok-users.users c.in_ok-groups.groups in
    let is = numbers_same files lines c.in_ok-wanted.wanted c.in_ok-users.users c.in_ok-groups.groups c.in_ok-users.ensures c.in_ok-groups.ensures c.in_ok-wanted.ensures in
    c.in_ok-numbers.ensures.new_messages ∙ ap (λ (ms : List (List ℕ)). c.args.new_messages.now ++ ms) (ap (λ (n : Numbers). n.new_messages) is)

pub returns-in_err-users-clause-texts : goal.returns-in_err-users-clause-texts
returns-in_err-users-clause-texts c = IfOk-from_err c.from_residual.result _ c.from_residual.ensures.0

pub returns-in_err-users-clause-lacking : goal.returns-in_err-users-clause-lacking
returns-in_err-users-clause-lacking c = memory_misses c.from_residual.result _ c.from_residual.ensures.1

pub returns-in_err-users-clause-new_messages : goal.returns-in_err-users-clause-new_messages
returns-in_err-users-clause-new_messages c = memory_owes c.from_residual.result _ c.from_residual.ensures.1

pub returns-in_err-wanted-clause-texts : goal.returns-in_err-wanted-clause-texts
returns-in_err-wanted-clause-texts c = IfOk-from_err c.from_residual-in_err-wanted.result _ c.from_residual-in_err-wanted.ensures.0

pub returns-in_err-wanted-clause-lacking : goal.returns-in_err-wanted-clause-lacking
returns-in_err-wanted-clause-lacking c = memory_misses c.from_residual-in_err-wanted.result _ c.from_residual-in_err-wanted.ensures.1

pub returns-in_err-wanted-clause-new_messages : goal.returns-in_err-wanted-clause-new_messages
returns-in_err-wanted-clause-new_messages c = memory_owes c.from_residual-in_err-wanted.result _ c.from_residual-in_err-wanted.ensures.1

pub returns-in_err-groups-clause-texts : goal.returns-in_err-groups-clause-texts
returns-in_err-groups-clause-texts c = IfOk-from_err c.from_residual-in_err-groups.result _ c.from_residual-in_err-groups.ensures.0

pub returns-in_err-groups-clause-lacking : goal.returns-in_err-groups-clause-lacking
returns-in_err-groups-clause-lacking c = memory_misses c.from_residual-in_err-groups.result _ c.from_residual-in_err-groups.ensures.1

pub returns-in_err-groups-clause-new_messages : goal.returns-in_err-groups-clause-new_messages
returns-in_err-groups-clause-new_messages c = memory_owes c.from_residual-in_err-groups.result _ c.from_residual-in_err-groups.ensures.1

pub returns-in_err-numbers-clause-texts : goal.returns-in_err-numbers-clause-texts
returns-in_err-numbers-clause-texts c = IfOk-from_err c.from_residual-in_err-numbers.result _ c.from_residual-in_err-numbers.ensures.0

pub returns-in_err-texts-clause-texts : goal.returns-in_err-texts-clause-texts
returns-in_err-texts-clause-texts c = IfOk-from_err c.from_residual-in_err-texts.result _ c.from_residual-in_err-texts.ensures.0

pub returns-in_err-texts-clause-lacking : goal.returns-in_err-texts-clause-lacking
returns-in_err-texts-clause-lacking c = memory_misses c.from_residual-in_err-texts.result _ c.from_residual-in_err-texts.ensures.1

pub returns-in_err-texts-clause-new_messages : goal.returns-in_err-texts-clause-new_messages
returns-in_err-texts-clause-new_messages c = memory_owes c.from_residual-in_err-texts.result _ c.from_residual-in_err-texts.ensures.1
