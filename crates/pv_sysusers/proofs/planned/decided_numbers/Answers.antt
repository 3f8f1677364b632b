use Rattle.std.proofs.Common.{◌++◌, refl, sym, ap, ◌∙◌}
use Rattle.std.proofs.lemmas.Result.{err_from_is_err_and}
use Rattle.pv_sysusers.specs.Deciding.{groups_by, pooled_by, users_by}
use Rattle.pv_sysusers.specs.Groups.{NewGroups}
use Rattle.pv_sysusers.specs.Planning.{numbers_in}
use Rattle.pv_sysusers.specs.Plans.{Numbers}
use Rattle.pv_sysusers.specs.Users.{NewUsers, decided_users}
use Rattle.pv_sysusers.specs.declared.wanted.Wanted.{Wanted}
use Rattle.pv_sysusers.proofs.PlanLaws.{after_groups, both_messages, groups_lack, users_lack, users_same, users_told}
use Rattle.pv_sysusers.proofs.planned.decided_numbers.Goals as goal

pub returns-in_err-groups-clause-lacking : goal.returns-in_err-groups-clause-lacking
returns-in_err-groups-clause-lacking c =
    let p = err_from_is_err_and c.from_residual.result c.from_residual.ensures.1 in
    let w : Wanted = c.args.wanted.now in
    rw (p.1, p.2) (groups_lack (pooled_by w.pool) c.args.users c.args.groups w.accounts.items (groups_by w c.args.users c.args.groups) c.in_err-groups.field-0.0 c.in_err-groups.ensures.lacking)

pub returns-in_err-users-clause-lacking : goal.returns-in_err-users-clause-lacking
returns-in_err-users-clause-lacking c =
    let p = err_from_is_err_and c.from_residual-in_err-users.result c.from_residual-in_err-users.ensures.1 in
    let w : Wanted = c.args.wanted.now in
    let new : NewGroups = groups_by w c.args.users c.args.groups in
    let made = c.in_ok-groups.ensures.made in
    let also = users_same w c.args.users c.args.groups c.in_ok-groups.groups.all new made.all in
    let whole = after_groups (pooled_by w.pool) c.args.users c.args.groups w.accounts.items new made.whole in
    let users : NewUsers = decided_users (pooled_by w.pool) (c.args.groups ++ new.made) c.args.users w.accounts.items in
    rw (p.1, p.2) (users_lack (numbers_in w c.args.users c.args.groups) new (users_by w c.in_ok-groups.groups.all c.args.users) users c.in_err-users.field-0.0 whole also c.in_err-users.ensures.lacking)

pub returns-in_err-users-clause-new_messages : goal.returns-in_err-users-clause-new_messages
returns-in_err-users-clause-new_messages c =
    let p = err_from_is_err_and c.from_residual-in_err-users.result c.from_residual-in_err-users.ensures.1 in
    let w : Wanted = c.args.wanted.now in
    let new : NewGroups = groups_by w c.args.users c.args.groups in
    let made = c.in_ok-groups.ensures.made in
    let also = users_same w c.args.users c.args.groups c.in_ok-groups.groups.all new made.all in
    let whole = after_groups (pooled_by w.pool) c.args.users c.args.groups w.accounts.items new made.whole in
    let users : NewUsers = decided_users (pooled_by w.pool) (c.args.groups ++ new.made) c.args.users w.accounts.items in
    rw (p.1, p.2) (users_told (numbers_in w c.args.users c.args.groups) new new (users_by w c.in_ok-groups.groups.all c.args.users) users
    c.in_err-users.field-0.0 c.args.new_messages.now c.decided_groups.new.new_messages c.decided_users.new.new_messages whole refl also c.in_ok-groups.ensures.new_messages c.in_err-users.ensures.new_messages)

pub returns-clause-made : goal.returns-clause-made
returns-clause-made c =
    let w : Wanted = c.args.wanted.now in
    let new : NewGroups = groups_by w c.args.users c.args.groups in
    let made = c.in_ok-groups.ensures.made in
    let also = users_same w c.args.users c.args.groups c.in_ok-groups.groups.all new made.all in
    let whole = after_groups (pooled_by w.pool) c.args.users c.args.groups w.accounts.items new made.whole in
    record {
      groups = made.made ∙ sym (ap (λ (n : Numbers). n.groups) whole);
      users = c.in_ok-users.ensures.made.made ∙ ap (λ (u : NewUsers). u.made) also ∙ sym (ap (λ (n : Numbers). n.users) whole);
      whole = ap (λ (n : Numbers). n.lacking) whole ∙ ap (λ (u : NewUsers). u.lacking) (sym also) ∙ c.in_ok-users.ensures.made.whole;
    }

pub returns-clause-new_messages : goal.returns-clause-new_messages
returns-clause-new_messages c =
    let w : Wanted = c.args.wanted.now in
    let new : NewGroups = groups_by w c.args.users c.args.groups in
    let made = c.in_ok-groups.ensures.made in
    let also = users_same w c.args.users c.args.groups c.in_ok-groups.groups.all new made.all in
    let whole = after_groups (pooled_by w.pool) c.args.users c.args.groups w.accounts.items new made.whole in
    let users : NewUsers = decided_users (pooled_by w.pool) (c.args.groups ++ new.made) c.args.users w.accounts.items in
    both_messages (numbers_in w c.args.users c.args.groups) new new (users_by w c.in_ok-groups.groups.all c.args.users) users
    c.args.new_messages.now c.decided_groups.new.new_messages c.decided_users.new.new_messages whole refl also c.in_ok-groups.ensures.new_messages c.in_ok-users.ensures.new_messages
