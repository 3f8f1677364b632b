use Rattle.std.proofs.Common.{ap, ◌∙◌, List}
use Rattle.std.proofs.lemmas.Result.{err_from_is_err_and}
use Rattle.pv_path.specs.Paths.{parent_of}
use Rattle.pv_steps.specs.declared.node.Kind.TheVariants.{Directory}
use Rattle.pv_steps.specs.Trees.{kind_of}
use Rattle.pv_steps.proofs.TreeLaws.{present_of_kind}
use Rattle.pv_tree.specs.Held.{Held, same_held}
use Rattle.pv_tree.specs.Slots.{files_of, places_in}
use Rattle.pv_tree.specs.declared.slot.Slot.{Slot}
use Rattle.pv_tree.proofs.NearLaws.{near_added}
use Rattle.pv_tree.proofs.State.{object_there, added_tree, added_files}
use Rattle.pv_tree.proofs.mem_tree.MemTree.add_object.Goals as goal

pub directory_by-directory-requires-clause-present : goal.directory_by-directory-requires-clause-present
directory_by-directory-requires-clause-present c =
    present_of_kind (places_in c.self.inside.slots.items) (parent_of c.args.path.now) Directory
    (ap kind_of (object_there c.self.inside.slots.items c.args.self.now.files (parent_of c.args.path.now) c.self.invariant.whole.forest (ap (λ (h : Held). h.files) c.self.view_is)) ∙ c.requires.room.1)

pub put_below-requires-clause-room : goal.put_below-requires-clause-room
put_below-requires-clause-room c =
    let same = ap (λ (h : Held). h.files) c.self.view_is in (
      object_there c.self.inside.slots.items c.args.self.now.files c.args.path.now c.self.invariant.whole.forest same ∙ c.requires.room.0,
      ap kind_of (object_there c.self.inside.slots.items c.args.self.now.files (parent_of c.args.path.now) c.self.invariant.whole.forest same) ∙ c.requires.room.1,
    )

pub invariant_of-self-2 : goal.invariant_of-self-2
invariant_of-self-2 c = record {
  whole = added_tree c.self.inside.slots.items c.put_below.new.slots.items c.args.self.now.files c.args.path.now c.args.object
      (ap (λ (h : Held). h.files) c.self.view_is) c.self.invariant.whole.forest c.put_below.ensures.forest c.put_below.result c.self.inside.free.items c.put_below.new.free.items c.self.invariant.whole c.put_below.ensures.free
      c.put_below.ensures.ok c.put_below.ensures.err c.requires.room.0 c.requires.room.1 c.names-names.ensures.names c.requires.object;
  near = near_added c.put_below.result c.self.inside.slots.items c.put_below.new.slots.items c.self.inside.log.steps.items c.self.inside.log.near c.args.path.now c.self.invariant.whole.forest
      (object_there c.self.inside.slots.items c.args.self.now.files c.args.path.now c.self.invariant.whole.forest (ap (λ (h : Held). h.files) c.self.view_is) ∙ c.requires.room.0)
      c.put_below.ensures.others c.put_below.ensures.err c.self.invariant.near;
}

pub invariant_of-self-inside : goal.invariant_of-self-inside
invariant_of-self-inside c = (
  (added_tree c.self.inside.slots.items c.put_below.new.slots.items c.args.self.now.files c.args.path.now c.args.object
      (ap (λ (h : Held). h.files) c.self.view_is) c.self.invariant.whole.forest c.put_below.ensures.forest c.put_below.result c.self.inside.free.items c.put_below.new.free.items c.self.invariant.whole c.put_below.ensures.free
      c.put_below.ensures.ok c.put_below.ensures.err c.requires.room.0 c.requires.room.1 c.names-names.ensures.names c.requires.object).tree,
  tt,
)

pub returns-clause-ok : goal.returns-clause-ok
returns-clause-ok c =
    added_files c.self.inside.slots.items c.put_below.new.slots.items c.args.self.now.files c.args.path.now c.args.object
    (ap (λ (h : Held). h.files) c.self.view_is) c.self.invariant.whole.forest c.put_below.ensures.forest c.in_ok-put_below.ensures.ok

pub returns-in_err-put_below-clause-err : goal.returns-in_err-put_below-clause-err
returns-in_err-put_below-clause-err c =
    let p = err_from_is_err_and c.from_residual.result c.from_residual.ensures.1 in
    rw (p.1) (same_held _ c.args.self.now (ap (λ (slots : List Slot). files_of slots) c.in_err-put_below.ensures.err ∙ ap (λ (h : Held). h.files) c.self.view_is) (ap (λ (h : Held). h.steps) c.self.view_is))
