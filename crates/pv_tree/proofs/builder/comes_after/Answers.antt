use Rattle.std.proofs.Common.{List, ℕ, Option, Some, slice_get, sym, ap, ◌∙◌}
use Rattle.std.specs.Ordering.{is_lt}
use Rattle.pv_tree.proofs.GrowthLaws.{by_names, order_shared, not_after}
use Rattle.pv_tree.proofs.builder.comes_after.Goals as goal

pub returns-in-Some-Some : goal.returns-in-Some-Some
returns-in-Some-Some c =
    c.is_lt.ensures ∙ ap is_lt (c.cmp.ensures
    ∙ ap (λ (o : Option (List ℕ)). by_names o (Some c.in-Some-Some.other.now)) c.in-Some-Some.ensures
    ∙ ap (by_names (slice_get c.args.first.now c.args.shared)) c.in-Some-Some.ensures'
    ∙ sym (order_shared c.args.first.now c.args.second.now c.args.shared c.requires))

pub returns-in-None-Some : goal.returns-in-None-Some
returns-in-None-Some c =
    ap is_lt (ap (λ (o : Option (List ℕ)). by_names o (Some c.in-None-Some.field-0-1.now)) c.in-None-Some.ensures
    ∙ ap (by_names (slice_get c.args.first.now c.args.shared)) c.in-None-Some.ensures'
    ∙ sym (order_shared c.args.first.now c.args.second.now c.args.shared c.requires))

pub returns-in_default-None : goal.returns-in_default-None
returns-in_default-None c = sym (not_after c.args.first.now c.args.second.now c.args.shared c.requires (sym (rw c.in_default-None.is-1 at c.get-2.ensures)))

pub returns-in_default-None-2 : goal.returns-in_default-None-2
returns-in_default-None-2 c = sym (not_after c.args.first.now c.args.second.now c.args.shared c.requires (sym (rw c.in_default-None.is-1 at c.get-2.ensures)))
