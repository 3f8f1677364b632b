use Rattle.std.proofs.Common.{◌≡◌, ◌∙◌, ◌+◌, sym, ap, refl, subst, Some, List, Bor, take, arith}
use Rattle.std.specs.Option.{option_copied}
use Rattle.pv_steps.specs.declared.node.Node.{Node}
use Rattle.pv_tree.specs.Slots.{slot_in}
use Rattle.pv_tree.proofs.AlongLaws.{AreAlong, along_all, along_more, next_slot}
use Rattle.pv_tree.proofs.slots.nodes_along.Goals as goal
use Rattle.pv_tree.proofs.slots.nodes_along.Goals.{in-Some-place+in_ok-push-2, in_default-place}

pub returns-in_default-clause-nodes : goal.returns-in_default-clause-nodes
returns-in_default-clause-nodes c = λ k h.
    along_all c.args.slots.now.items c.args.names.now _ _ c.loop-name.invariant.so_far (ap option_copied (sym c.in_default.is) ∙ c.loop-name.invariant.place) k

pub loop-name-preserved : goal.loop-name-preserved
loop-name-preserved c =
    let at : Some c.in-Some.slot.now ≡ slot_in c.args.slots.now.items (take c.loop-name.name-index c.args.names.now) = ap option_copied (sym c.in-Some.is) ∙ c.loop-name.invariant.place in
    record {
      so_far = subst (λ (v : List (Bor Node)). AreAlong c.args.slots.now.items c.args.names.now v (c.loop-name.name-index + 1)) (sym c.in_ok-push.ensures.items)
          (along_more c.args.slots.now.items c.args.names.now _ _ c.in-Some.slot.now _ c.loop-name.invariant.so_far at refl);
      place = c.child_slot-place.ensures ∙ next_slot c.args.slots.now.items c.args.names.now c.loop-name.name-index _ c.in-Some.slot.now c.loop-name-test.true c.name-item.is at;
    }

pub returns-clause-nodes : goal.returns-clause-nodes
returns-clause-nodes c = elim c.match-place-2.branch [
  | in-Some-place+in_ok-push-2 w ↦ λ k h.
      let at : Some w.in-Some-place.slot.now ≡ slot_in c.args.slots.now.items (take c.loop-name.name-index c.args.names.now) = ap option_copied (sym w.in-Some-place.is) ∙ c.loop-name.invariant.place in
      rw (w.nodes-is, w.in_ok-push-2.ensures.items)
      ((along_more c.args.slots.now.items c.args.names.now _ _ w.in-Some-place.slot.now _ c.loop-name.invariant.so_far at refl).at k (omega (arith, h, c.loop-name-test.false)))
  | in_default-place w ↦ λ k h.
      rw w.nodes-is
      (along_all c.args.slots.now.items c.args.names.now _ _ c.loop-name.invariant.so_far (ap option_copied (sym w.in_default-place.is) ∙ c.loop-name.invariant.place) k)
]
