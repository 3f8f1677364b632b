use Rattle.std.proofs.Common.{ap}
use Rattle.pv_steps.proofs.ActingLaws.{never_counted}
use Rattle.pv_tree.specs.Held.{Held}
use Rattle.pv_tree.proofs.State.{tree_in, can_in, told_tree, told_state}
use Rattle.pv_tree.proofs.mem_tree.MemTreeTree.step.Goals as goal

pub do_told-requires-clause-tree : goal.do_told-requires-clause-tree
do_told-requires-clause-tree c = tree_in c.self.inside.slots.items c.self.inside.free.items c.self.invariant.whole

pub do_told-requires-clause-can : goal.do_told-requires-clause-can
do_told-requires-clause-can c = can_in c.self.inside.slots.items c.args.self.now.files c.args.step.now c.self.invariant.whole.forest (ap (λ (h : Held). h.files) c.self.view_is) c.requires

pub invariant_of-self : goal.invariant_of-self
invariant_of-self c = record {
  whole = told_tree c.do_told.result c.self.inside.slots.items c.do_told.new.slots.items c.self.inside.free.items c.do_told.new.free.items c.args.self.now.files c.args.step.now c.args.now
      (ap (λ (h : Held). h.files) c.self.view_is) c.self.invariant.whole c.do_told.ensures.forest c.do_told.ensures.free c.do_told.ensures.ok c.do_told.ensures.err c.requires c.parts_fit.ensures c.ranges.now.fits;
  near = c.do_told.ensures.near;
}

pub invariant_of-self-inside : goal.invariant_of-self-inside
invariant_of-self-inside c = (
  (told_tree c.do_told.result c.self.inside.slots.items c.do_told.new.slots.items c.self.inside.free.items c.do_told.new.free.items c.args.self.now.files c.args.step.now c.args.now
      (ap (λ (h : Held). h.files) c.self.view_is) c.self.invariant.whole c.do_told.ensures.forest c.do_told.ensures.free c.do_told.ensures.ok c.do_told.ensures.err c.requires c.parts_fit.ensures c.ranges.now.fits).tree,
  tt,
)

pub returns-clause-state : goal.returns-clause-state
returns-clause-state c =
    told_state c.do_told.result c.self.inside.slots.items c.do_told.new.slots.items c.args.self.now.files c.args.step.now c.args.now (ap (λ (h : Held). h.files) c.self.view_is)
    c.self.invariant.whole.forest c.do_told.ensures.forest c.do_told.ensures.ok

pub returns-clause-counted : goal.returns-clause-counted
returns-clause-counted c = never_counted c.do_told.result c.do_told.ensures.fault 0
