use Rattle.std.proofs.Common.{◌≡◌, ◌++◌, ◌<◌, ℕ, List, length, get_or, true, false, Some, None, is_some, ap, subst, sym, ◌∙◌}
use Rattle.std.proofs.lemmas.Result.{err_from_is_err_and}
use Rattle.pv_accounts.specs.InUse.{Ids, id_of, is_held}
use Rattle.pv_sysusers.specs.Deciding.{pooled_by, users_by, UnlessMemoryBy}
use Rattle.pv_sysusers.specs.Pools.{free_number}
use Rattle.pv_sysusers.specs.Users.{user_choice}
use Rattle.pv_sysusers.specs.declared.needs.Account.{Account}
use Rattle.pv_sysusers.specs.declared.pool.Pool.{Pool}
use Rattle.pv_sysusers.proofs.StockLaws.{given_next, held_more, next_below}
use Rattle.pv_sysusers.proofs.UserLaws.{step_fault, step_new, step_there}
use Rattle.pv_sysusers.proofs.users.decided_users.Goals as goal

pub further-stock-requires : goal.further-stock-requires
further-stock-requires c = next_below (pooled_by c.loop-account.stock.pool.now) c.loop-account.users.all c.args.groups.now 4294967295 c.loop-account.stock.next c.loop-account.invariant.1

pub loop-account-preserved : goal.loop-account-preserved
loop-account-preserved c =
    let below : c.loop-account.account-index < length c.args.wanted.now.accounts.items = subst (λ (us : List Account). c.loop-account.account-index < length us) c.deref-account-items.ensures.value c.loop-account-test.true in
    let is : c.account-item.result ≡ get_or c.args.wanted.now.accounts.items c.loop-account.account-index c.account-item.result = c.account-item.is ∙ ap (λ (us : List Account). get_or us c.loop-account.account-index c.account-item.result) c.deref-account-items.ensures.value in
    let absent : is_some (id_of c.loop-account.users.all c.account-item.result.name) ≡ false =
    ap (λ name. is_some (id_of c.loop-account.users.all name)) (sym c.as_slice.ensures) ∙ ap (λ id. is_some id) (sym c.id_of.ensures.value) ∙ sym c.is_some.ensures ∙ c.if-is_some.false in
    let stock = c.loop-account.stock in
    let old = c.loop-account.users.all in
    let new = c.in_ok-users.users.all in
    let more : (k : ℕ) → is_held old k ≡ true → is_held new k ≡ true = λ k h.
    ap (λ (ids : Ids). is_held ids k) c.in_ok-users.ensures.all ∙ held_more old (c.account-item.result.name, c.in_ok-uid.uid) k h in
    let next : c.further-stock.result.next ≡ free_number (pooled_by stock.pool.now) new c.args.groups.now =
    given_next (pooled_by stock.pool.now) old c.args.groups.now new c.args.groups.now 4294967295 stock.next c.further-stock.result.next c.loop-account.invariant.1 more (λ k h. h) c.further-stock.ensures.some c.further-stock.ensures.none in (
      rw c.in_ok-users.ensures.made (step_new (pooled_by c.args.wanted.now.pool) c.args.groups.now (users_by c.args.wanted.now c.args.groups.now c.args.users) c.loop-account.users.all c.loop-account.users.made.items
          c.in_ok-users.users.all c.args.new_messages.now c.loop-account.new_messages c.needed_number.new.new_messages c.args.wanted.now.accounts.items c.loop-account.account-index c.account-item.result c.in_ok-uid.uid
          below is absent (subst (λ (p : Pool). Some c.in_ok-uid.uid ≡ (user_choice (pooled_by p) c.loop-account.users.all c.args.groups.now c.account-item.result).number) c.loop-account.invariant.2 c.in_ok-uid.ensures.number) (subst (λ (p : Pool). c.needed_number.new.new_messages ≡ c.loop-account.new_messages ++ (user_choice (pooled_by p) c.loop-account.users.all c.args.groups.now c.account-item.result).new_messages) c.loop-account.invariant.2 c.in_ok-uid.ensures.new_messages) c.in_ok-users.ensures.all c.loop-account.invariant.0),
      next ∙ (λ j. free_number (pooled_by (sym c.further-stock.ensures.pool j).now) new c.args.groups.now),
      (λ j. (c.further-stock.ensures.pool j).now) ∙ c.loop-account.invariant.2,
    )

pub loop-account-preserved-then-is_some : goal.loop-account-preserved-then-is_some
loop-account-preserved-then-is_some c =
    let below : c.loop-account.account-index < length c.args.wanted.now.accounts.items = subst (λ (us : List Account). c.loop-account.account-index < length us) c.deref-account-items.ensures.value c.loop-account-test.true in
    let is : c.account-item.result ≡ get_or c.args.wanted.now.accounts.items c.loop-account.account-index c.account-item.result = c.account-item.is ∙ ap (λ (us : List Account). get_or us c.loop-account.account-index c.account-item.result) c.deref-account-items.ensures.value in
    let there : is_some (id_of c.loop-account.users.all c.account-item.result.name) ≡ true =
    ap (λ name. is_some (id_of c.loop-account.users.all name)) (sym c.as_slice.ensures) ∙ ap (λ id. is_some id) (sym c.id_of.ensures.value) ∙ sym c.is_some.ensures ∙ c.if-is_some.true in (
      step_there (pooled_by c.args.wanted.now.pool) c.args.groups.now (users_by c.args.wanted.now c.args.groups.now c.args.users) c.loop-account.users.all c.loop-account.users.made.items
          c.args.new_messages.now c.loop-account.new_messages c.args.wanted.now.accounts.items c.loop-account.account-index c.account-item.result below is there c.loop-account.invariant.0,
      c.loop-account.invariant.1,
      c.loop-account.invariant.2,
    )

pub returns-in_err-uid-clause-lacking : goal.returns-in_err-uid-clause-lacking
returns-in_err-uid-clause-lacking c =
    let below : c.loop-account.account-index < length c.args.wanted.now.accounts.items = subst (λ (us : List Account). c.loop-account.account-index < length us) c.deref-account-items.ensures.value c.loop-account-test.true in
    let is : c.account-item.result ≡ get_or c.args.wanted.now.accounts.items c.loop-account.account-index c.account-item.result = c.account-item.is ∙ ap (λ (us : List Account). get_or us c.loop-account.account-index c.account-item.result) c.deref-account-items.ensures.value in
    let p = err_from_is_err_and c.from_residual.result c.from_residual.ensures.1 in
    let absent : is_some (id_of c.loop-account.users.all c.account-item.result.name) ≡ false =
    ap (λ name. is_some (id_of c.loop-account.users.all name)) (sym c.as_slice.ensures) ∙ ap (λ id. is_some id) (sym c.id_of.ensures.value) ∙ sym c.is_some.ensures ∙ c.if-is_some.false in
    rw (p.1, p.2) (step_fault (pooled_by c.args.wanted.now.pool) c.args.groups.now (users_by c.args.wanted.now c.args.groups.now c.args.users) c.loop-account.users.all c.loop-account.users.made.items
    c.args.new_messages.now c.loop-account.new_messages c.needed_number.new.new_messages c.args.wanted.now.accounts.items c.loop-account.account-index c.account-item.result c.in_err-uid.field-0.0
    below is absent (subst (λ (p : Pool). UnlessMemoryBy c.in_err-uid.field-0.0 (None ≡ (user_choice (pooled_by p) c.loop-account.users.all c.args.groups.now c.account-item.result).number)) c.loop-account.invariant.2 c.in_err-uid.ensures.none) c.in_err-uid.ensures.lacking (subst (λ (p : Pool). UnlessMemoryBy c.in_err-uid.field-0.0 (c.needed_number.new.new_messages ≡ c.loop-account.new_messages ++ (user_choice (pooled_by p) c.loop-account.users.all c.args.groups.now c.account-item.result).new_messages)) c.loop-account.invariant.2 c.in_err-uid.ensures.new_messages) c.loop-account.invariant.0).0

pub returns-in_err-uid-clause-new_messages : goal.returns-in_err-uid-clause-new_messages
returns-in_err-uid-clause-new_messages c =
    let below : c.loop-account.account-index < length c.args.wanted.now.accounts.items = subst (λ (us : List Account). c.loop-account.account-index < length us) c.deref-account-items.ensures.value c.loop-account-test.true in
    let is : c.account-item.result ≡ get_or c.args.wanted.now.accounts.items c.loop-account.account-index c.account-item.result = c.account-item.is ∙ ap (λ (us : List Account). get_or us c.loop-account.account-index c.account-item.result) c.deref-account-items.ensures.value in
    let p = err_from_is_err_and c.from_residual.result c.from_residual.ensures.1 in
    let absent : is_some (id_of c.loop-account.users.all c.account-item.result.name) ≡ false =
    ap (λ name. is_some (id_of c.loop-account.users.all name)) (sym c.as_slice.ensures) ∙ ap (λ id. is_some id) (sym c.id_of.ensures.value) ∙ sym c.is_some.ensures ∙ c.if-is_some.false in
    rw (p.1, p.2) (step_fault (pooled_by c.args.wanted.now.pool) c.args.groups.now (users_by c.args.wanted.now c.args.groups.now c.args.users) c.loop-account.users.all c.loop-account.users.made.items
    c.args.new_messages.now c.loop-account.new_messages c.needed_number.new.new_messages c.args.wanted.now.accounts.items c.loop-account.account-index c.account-item.result c.in_err-uid.field-0.0
    below is absent (subst (λ (p : Pool). UnlessMemoryBy c.in_err-uid.field-0.0 (None ≡ (user_choice (pooled_by p) c.loop-account.users.all c.args.groups.now c.account-item.result).number)) c.loop-account.invariant.2 c.in_err-uid.ensures.none) c.in_err-uid.ensures.lacking (subst (λ (p : Pool). UnlessMemoryBy c.in_err-uid.field-0.0 (c.needed_number.new.new_messages ≡ c.loop-account.new_messages ++ (user_choice (pooled_by p) c.loop-account.users.all c.args.groups.now c.account-item.result).new_messages)) c.loop-account.invariant.2 c.in_err-uid.ensures.new_messages) c.loop-account.invariant.0).1
