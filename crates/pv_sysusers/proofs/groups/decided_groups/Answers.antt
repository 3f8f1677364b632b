use Rattle.std.proofs.Common.{◌≡◌, ◌++◌, ◌<◌, ℕ, List, length, get_or, true, false, Option, Some, None, is_some, ap, subst, sym, ◌∙◌}
use Rattle.std.proofs.lemmas.Result.{err_from_is_err_and}
use Rattle.pv_accounts.specs.InUse.{Ids, id_of, is_held}
use Rattle.pv_text.specs.declared.place.Place.{Place}
use Rattle.pv_sysusers.specs.Deciding.{fixed_by, groups_by, pooled_by, UnlessMemoryBy}
use Rattle.pv_sysusers.specs.Groups.{group_choice}
use Rattle.pv_sysusers.specs.Needs.{fixed_for}
use Rattle.pv_sysusers.specs.Pools.{free_number}
use Rattle.pv_sysusers.specs.declared.needs.Need.{Need}
use Rattle.pv_sysusers.proofs.GroupLaws.{step_fault, step_new, step_there}
use Rattle.pv_sysusers.proofs.StockLaws.{given_next, held_more, next_below}
use Rattle.pv_sysusers.proofs.groups.decided_groups.Goals as goal

pub further-stock-requires : goal.further-stock-requires
further-stock-requires c = next_below (pooled_by c.loop-need.stock.pool.now) c.args.users.now c.loop-need.groups.all 4294967295 c.loop-need.stock.next c.loop-need.invariant.1

pub loop-need-preserved : goal.loop-need-preserved
loop-need-preserved c =
    let below : c.loop-need.need-index < length c.args.wanted.now.needs.items = subst (λ (ns : List Need). c.loop-need.need-index < length ns) c.deref-need-items.ensures.value c.loop-need-test.true in
    let is : c.need-item.result ≡ get_or c.args.wanted.now.needs.items c.loop-need.need-index c.need-item.result = c.need-item.is ∙ ap (λ (ns : List Need). get_or ns c.loop-need.need-index c.need-item.result) c.deref-need-items.ensures.value in
    let fixed : fixed_by c.in_ok-fixed.fixed c.need-item.result.name ≡ fixed_for c.args.wanted.now.needs.items c.need-item.result.name =
    c.in_ok-fixed.ensures c.need-item.result.name ∙ ap (λ (ns : List Need). fixed_for ns c.need-item.result.name) c.deref.ensures.value in
    let absent : is_some (id_of c.loop-need.groups.all c.need-item.result.name) ≡ false =
    ap (λ name. is_some (id_of c.loop-need.groups.all name)) (sym c.as_slice.ensures) ∙ ap (λ id. is_some id) (sym c.id_of.ensures.value) ∙ sym c.is_some.ensures ∙ c.if-is_some.false in
    let stock = c.loop-need.stock in
    let old = c.loop-need.groups.all in
    let new = c.in_ok-groups.groups.all in
    let more : (k : ℕ) → is_held old k ≡ true → is_held new k ≡ true = λ k h.
    ap (λ (ids : Ids). is_held ids k) c.in_ok-groups.ensures.all ∙ held_more old (c.need-item.result.name, c.in_ok-n.n) k h in
    let next : c.further-stock.result.next ≡ free_number (pooled_by stock.pool.now) c.args.users.now new =
    given_next (pooled_by stock.pool.now) c.args.users.now old c.args.users.now new 4294967295 stock.next c.further-stock.result.next c.loop-need.invariant.1 (λ k h. h) more c.further-stock.ensures.some c.further-stock.ensures.none in (
      rw c.in_ok-groups.ensures.made (step_new (pooled_by c.args.wanted.now.pool) c.args.users.now (fixed_for c.args.wanted.now.needs.items) (groups_by c.args.wanted.now c.args.users.now c.args.groups)
          c.args.groups c.loop-need.groups.all c.loop-need.groups.made.items c.in_ok-groups.groups.all c.args.new_messages.now c.loop-need.new_messages c.needed_number.new.new_messages c.args.wanted.now.needs.items c.loop-need.need-index c.need-item.result c.in_ok-n.n
          below is absent (subst (λ (o : Option (ℕ × Place)). Some c.in_ok-n.n ≡ (group_choice (pooled_by c.args.wanted.now.pool) c.args.users.now c.loop-need.groups.all c.need-item.result.name o).number) fixed (rw c.loop-need.invariant.2 at c.in_ok-n.ensures.number)) (subst (λ (o : Option (ℕ × Place)). c.needed_number.new.new_messages ≡ c.loop-need.new_messages ++ (group_choice (pooled_by c.args.wanted.now.pool) c.args.users.now c.loop-need.groups.all c.need-item.result.name o).new_messages) fixed (rw c.loop-need.invariant.2 at c.in_ok-n.ensures.new_messages)) c.in_ok-groups.ensures.all c.loop-need.invariant.0),
      next ∙ (λ j. free_number (pooled_by (sym c.further-stock.ensures.pool j).now) c.args.users.now new),
      (λ j. (c.further-stock.ensures.pool j).now) ∙ c.loop-need.invariant.2,
    )

pub loop-need-preserved-then-is_some : goal.loop-need-preserved-then-is_some
loop-need-preserved-then-is_some c =
    let below : c.loop-need.need-index < length c.args.wanted.now.needs.items = subst (λ (ns : List Need). c.loop-need.need-index < length ns) c.deref-need-items.ensures.value c.loop-need-test.true in
    let is : c.need-item.result ≡ get_or c.args.wanted.now.needs.items c.loop-need.need-index c.need-item.result = c.need-item.is ∙ ap (λ (ns : List Need). get_or ns c.loop-need.need-index c.need-item.result) c.deref-need-items.ensures.value in
    let there : is_some (id_of c.loop-need.groups.all c.need-item.result.name) ≡ true =
    ap (λ name. is_some (id_of c.loop-need.groups.all name)) (sym c.as_slice.ensures) ∙ ap (λ id. is_some id) (sym c.id_of.ensures.value) ∙ sym c.is_some.ensures ∙ c.if-is_some.true in (
      step_there (pooled_by c.args.wanted.now.pool) c.args.users.now (fixed_for c.args.wanted.now.needs.items) (groups_by c.args.wanted.now c.args.users.now c.args.groups)
          c.args.groups c.loop-need.groups.all c.loop-need.groups.made.items c.args.new_messages.now c.loop-need.new_messages c.args.wanted.now.needs.items c.loop-need.need-index c.need-item.result below is there c.loop-need.invariant.0,
      c.loop-need.invariant.1,
      c.loop-need.invariant.2,
    )

pub returns-in_err-n-clause-lacking : goal.returns-in_err-n-clause-lacking
returns-in_err-n-clause-lacking c =
    let below : c.loop-need.need-index < length c.args.wanted.now.needs.items = subst (λ (ns : List Need). c.loop-need.need-index < length ns) c.deref-need-items.ensures.value c.loop-need-test.true in
    let is : c.need-item.result ≡ get_or c.args.wanted.now.needs.items c.loop-need.need-index c.need-item.result = c.need-item.is ∙ ap (λ (ns : List Need). get_or ns c.loop-need.need-index c.need-item.result) c.deref-need-items.ensures.value in
    let fixed : fixed_by c.in_ok-fixed.fixed c.need-item.result.name ≡ fixed_for c.args.wanted.now.needs.items c.need-item.result.name =
    c.in_ok-fixed.ensures c.need-item.result.name ∙ ap (λ (ns : List Need). fixed_for ns c.need-item.result.name) c.deref.ensures.value in
    let p = err_from_is_err_and c.from_residual-in_err-n.result c.from_residual-in_err-n.ensures.1 in
    let absent : is_some (id_of c.loop-need.groups.all c.need-item.result.name) ≡ false =
    ap (λ name. is_some (id_of c.loop-need.groups.all name)) (sym c.as_slice.ensures) ∙ ap (λ id. is_some id) (sym c.id_of.ensures.value) ∙ sym c.is_some.ensures ∙ c.if-is_some.false in
    rw (p.1, p.2) (step_fault (pooled_by c.args.wanted.now.pool) c.args.users.now (fixed_for c.args.wanted.now.needs.items) (groups_by c.args.wanted.now c.args.users.now c.args.groups)
    c.args.groups c.loop-need.groups.all c.loop-need.groups.made.items c.args.new_messages.now c.loop-need.new_messages c.needed_number.new.new_messages c.args.wanted.now.needs.items c.loop-need.need-index c.need-item.result c.in_err-n.field-0.0
    below is absent (subst (λ (o : Option (ℕ × Place)). UnlessMemoryBy c.in_err-n.field-0.0 (None ≡ (group_choice (pooled_by c.args.wanted.now.pool) c.args.users.now c.loop-need.groups.all c.need-item.result.name o).number)) fixed (rw c.loop-need.invariant.2 at c.in_err-n.ensures.none)) c.in_err-n.ensures.lacking (subst (λ (o : Option (ℕ × Place)). UnlessMemoryBy c.in_err-n.field-0.0 (c.needed_number.new.new_messages ≡ c.loop-need.new_messages ++ (group_choice (pooled_by c.args.wanted.now.pool) c.args.users.now c.loop-need.groups.all c.need-item.result.name o).new_messages)) fixed (rw c.loop-need.invariant.2 at c.in_err-n.ensures.new_messages)) c.loop-need.invariant.0).0

pub returns-in_err-n-clause-new_messages : goal.returns-in_err-n-clause-new_messages
returns-in_err-n-clause-new_messages c =
    let below : c.loop-need.need-index < length c.args.wanted.now.needs.items = subst (λ (ns : List Need). c.loop-need.need-index < length ns) c.deref-need-items.ensures.value c.loop-need-test.true in
    let is : c.need-item.result ≡ get_or c.args.wanted.now.needs.items c.loop-need.need-index c.need-item.result = c.need-item.is ∙ ap (λ (ns : List Need). get_or ns c.loop-need.need-index c.need-item.result) c.deref-need-items.ensures.value in
    let fixed : fixed_by c.in_ok-fixed.fixed c.need-item.result.name ≡ fixed_for c.args.wanted.now.needs.items c.need-item.result.name =
    c.in_ok-fixed.ensures c.need-item.result.name ∙ ap (λ (ns : List Need). fixed_for ns c.need-item.result.name) c.deref.ensures.value in
    let p = err_from_is_err_and c.from_residual-in_err-n.result c.from_residual-in_err-n.ensures.1 in
    let absent : is_some (id_of c.loop-need.groups.all c.need-item.result.name) ≡ false =
    ap (λ name. is_some (id_of c.loop-need.groups.all name)) (sym c.as_slice.ensures) ∙ ap (λ id. is_some id) (sym c.id_of.ensures.value) ∙ sym c.is_some.ensures ∙ c.if-is_some.false in
    rw (p.1, p.2) (step_fault (pooled_by c.args.wanted.now.pool) c.args.users.now (fixed_for c.args.wanted.now.needs.items) (groups_by c.args.wanted.now c.args.users.now c.args.groups)
    c.args.groups c.loop-need.groups.all c.loop-need.groups.made.items c.args.new_messages.now c.loop-need.new_messages c.needed_number.new.new_messages c.args.wanted.now.needs.items c.loop-need.need-index c.need-item.result c.in_err-n.field-0.0
    below is absent (subst (λ (o : Option (ℕ × Place)). UnlessMemoryBy c.in_err-n.field-0.0 (None ≡ (group_choice (pooled_by c.args.wanted.now.pool) c.args.users.now c.loop-need.groups.all c.need-item.result.name o).number)) fixed (rw c.loop-need.invariant.2 at c.in_err-n.ensures.none)) c.in_err-n.ensures.lacking (subst (λ (o : Option (ℕ × Place)). UnlessMemoryBy c.in_err-n.field-0.0 (c.needed_number.new.new_messages ≡ c.loop-need.new_messages ++ (group_choice (pooled_by c.args.wanted.now.pool) c.args.users.now c.loop-need.groups.all c.need-item.result.name o).new_messages)) fixed (rw c.loop-need.invariant.2 at c.in_err-n.ensures.new_messages)) c.loop-need.invariant.0).1
