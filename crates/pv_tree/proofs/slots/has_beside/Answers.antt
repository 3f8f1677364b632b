use Rattle.std.proofs.Common.{◌∙◌, sym, ap, is_some}
use Rattle.std.proofs.lemmas.Slice.Zip.{either_empty_from_Zip}
use Rattle.pv_tree.specs.Slots.{child_in}
use Rattle.pv_tree.proofs.AlongLaws.{beside_next, beside_off, beside_end}
use Rattle.pv_tree.proofs.slots.has_beside.Goals as goal

pub loop-name-preserved : goal.loop-name-preserved
loop-name-preserved c =
    let absent = ap is_some (sym c.child_of.ensures) ∙ sym c.is_some.ensures ∙ c.if-is_some.false in
    sym (beside_next (child_in c.args.slots.now.items) c.loop-name.number _ _ _ _ _ _ c.in-Some.ensures.steps absent c.in-Some-child_of.child c.in-Some-child_of.ensures) ∙ c.loop-name.invariant

pub returns-in-None-child_of : goal.returns-in-None-child_of
returns-in-None-child_of c =
    let absent = ap is_some (sym c.child_of.ensures) ∙ sym c.is_some.ensures ∙ c.if-is_some.false in
    sym (sym c.loop-name.invariant ∙ beside_off (child_in c.args.slots.now.items) c.loop-name.number _ _ _ _ _ _ c.in-Some.ensures.steps absent c.in-None-child_of.ensures)

pub returns : goal.returns
returns c =
    sym (sym c.loop-name.invariant ∙ beside_end (child_in c.args.slots.now.items) c.loop-name.number _ _ (either_empty_from_Zip c.loop-name.name-iterator c.next.new.self c.next.result c.in-None.is c.next.ensures.steps))
