use Rattle.std.proofs.Common.{◌≡◌, Some, List, ℕ, subst, sym, ◌∙◌}
use Rattle.pv_path.specs.Paths.{parent_of}
use Rattle.pv_steps.specs.Steps.{moved}
use Rattle.pv_tree.specs.Edges.{IsSet}
use Rattle.pv_tree.specs.Slots.{child_in, number_in, places_in}
use Rattle.pv_tree.proofs.ForestLaws.{Kept, rename_kept, no_root, present_child, number_of_child}
use Rattle.pv_tree.proofs.edits.rename.Goals as goal

pub own_name-requires : goal.own_name-requires
own_name-requires c = no_root (places_in c.args.slots.now.items) c.args.from.now c.args.to.path.now c.requires.tree c.requires.movable

pub unreachable-requires : goal.unreachable-requires
unreachable-requires c =
    present_child c.args.slots.now.items c.directory_near-source.result c.own_name-old_name.result.now c.args.from.now c.requires.forest c.directory_near-source.ensures c.own_name-old_name.ensures
    c.requires.movable.present (sym c.in_default.ensures)

pub put_child-requires : goal.put_child-requires
put_child-requires c = c.requires.forest.within (parent_of c.args.to.path.now) c.args.to.directory c.requires.directory

pub remove_child-requires : goal.remove_child-requires
remove_child-requires c =
    rw c.put_child.ensures.length (c.requires.forest.within (parent_of c.args.from.now) c.directory_near-source.result c.directory_near-source.ensures)

pub touch-requires : goal.touch-requires
touch-requires c =
    rw (c.remove_child.ensures.length, c.put_child.ensures.length) (c.requires.forest.within (parent_of c.args.to.path.now) c.args.to.directory c.requires.directory)

pub touch-requires-2 : goal.touch-requires-2
touch-requires-2 c =
    rw (c.touch.ensures.length, c.remove_child.ensures.length, c.put_child.ensures.length) (c.requires.forest.within (parent_of c.args.from.now) c.directory_near-source.result c.directory_near-source.ensures)

pub renew-requires : goal.renew-requires
renew-requires c =
    let at : number_in c.args.slots.now.items c.args.from.now ≡ Some c.in-Some.number =
    number_of_child c.args.slots.now.items c.directory_near-source.result c.own_name-old_name.result.now c.args.from.now c.directory_near-source.ensures c.own_name-old_name.ensures ∙ sym c.in-Some.ensures in
    rw (c.touch-2.ensures.length, c.touch.ensures.length, c.remove_child.ensures.length, c.put_child.ensures.length) (c.requires.forest.within c.args.from.now c.in-Some.number at)

pub returns-in_err-copy-clause-free : goal.returns-in_err-copy-clause-free
returns-in_err-copy-clause-free c = rw c.reserve.ensures.items c.requires.free

pub returns-in_err-replaced-clause-forest : goal.returns-in_err-replaced-clause-forest
returns-in_err-replaced-clause-forest c = rw c.in_err-replaced.ensures.err c.requires.forest

pub returns-in_err-replaced-clause-free : goal.returns-in_err-replaced-clause-free
returns-in_err-replaced-clause-free c = rw (c.in_err-replaced.ensures.err, c.reserve.ensures.items) c.requires.free

edges : (c : goal.After-release) → IsSet c.args.to.directory c.own_name.result.now (Some c.in-Some.number) (child_in c.args.slots.now.items) (child_in c.put_child.new.slots.items)
edges c = subst (λ (n : List ℕ). IsSet c.args.to.directory n (Some c.in-Some.number) (child_in c.args.slots.now.items) (child_in c.put_child.new.slots.items)) c.in_ok-copy.ensures c.in_ok-replaced.ensures.edges

kept : (c : goal.After-release) → Kept c.renew.new.slots.items c.release.new.free.items (moved c.args.now c.args.from.now c.args.to.path.now (places_in c.args.slots.now.items))
    × (number_in c.renew.new.slots.items (parent_of c.args.to.path.now) ≡ Some c.args.to.directory)
kept c = rename_kept c.args.slots.now.items c.put_child.new.slots.items c.remove_child.new.slots.items c.touch.new.slots.items c.touch-2.new.slots.items c.renew.new.slots.items
    c.args.free.now.items c.reserve.new.self.items c.release.new.free.items c.args.now c.directory_near-source.result c.args.to.directory c.in-Some.number c.in_ok-replaced.replaced
    c.own_name-old_name.result.now c.own_name.result.now c.args.from.now c.args.to.path.now c.requires.forest c.requires.free
    c.directory_near-source.ensures c.own_name-old_name.ensures c.requires.directory c.own_name.ensures c.in-Some.ensures c.requires.movable.outside
    (edges c) c.put_child.ensures.objects c.put_child.ensures.length
    (subst (λ (n : List ℕ). c.in_ok-replaced.replaced ≡ child_in c.args.slots.now.items c.args.to.directory n) c.in_ok-copy.ensures c.in_ok-replaced.ensures.old)
    c.remove_child.ensures.edges c.remove_child.ensures.objects c.remove_child.ensures.length
    c.touch.ensures.objects c.touch.ensures.edges c.touch.ensures.length
    c.touch-2.ensures.objects c.touch-2.ensures.edges c.touch-2.ensures.length
    c.renew.ensures.objects c.renew.ensures.edges c.renew.ensures.length c.reserve.ensures.items c.release.ensures

pub returns-clause-forest : goal.returns-clause-forest
returns-clause-forest c = (kept c).0.forest

pub returns-clause-free : goal.returns-clause-free
returns-clause-free c = (kept c).0.spare

pub returns-clause-ok : goal.returns-clause-ok
returns-clause-ok c = (kept c).0.places

pub returns-clause-directory : goal.returns-clause-directory
returns-clause-directory c = (kept c).1
