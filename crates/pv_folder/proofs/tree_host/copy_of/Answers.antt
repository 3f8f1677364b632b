use Rattle.std.proofs.Common.{◌∙◌, [], arith, drop, length, sym, ap, subst}
use Rattle.std.specs.FinMap as fin
use Rattle.pv_path.specs.Paths.{Path}
use Rattle.pv_steps.specs.declared.node.Node.{Node}
use Rattle.pv_steps.specs.declared.object.Object.{Object}
use Rattle.pv_steps.specs.Objects.{IsObject}
use Rattle.pv_tree.specs.Growth.{Grown}
use Rattle.pv_tree.specs.Held.{root_alone}
use Rattle.pv_tree.proofs.PlanLaws.{Planned}
use Rattle.pv_tree.proofs.GrowLaws.{IsGrowing, all_grown, grown, has_parent, is_after, is_object, walk_over}
use Rattle.pv_folder.proofs.Copying.{begun, first_kind, first_whole, head, next, next_named, some_entry}
use Rattle.pv_folder.proofs.tree_host.copy_of.Goals as goal

pub unreachable-requires : goal.unreachable-requires
unreachable-requires c =
    some_entry c.args.tree.now.files c.in_ok-walk.ensures.tree (sym c.in_ok-walk.ensures.entries ∙ walk_over c.in_ok-walk.walk c.in_default.ensures)

pub new-requires-clause-kind : goal.new-requires-clause-kind
new-requires-clause-kind c =
    ap (λ (n : Node). n.kind) c.in_ok-copy.ensures
    ∙ first_kind c.args.tree.now.files c.in_ok-walk.ensures.tree c.in_ok-walk.walk c.in_ok-walk.ensures.entries c.in-Some.root.names.now (record { node = c.in-Some.root.node.now; payload = c.in-Some.root.payload.now }) c.in-Some.ensures

pub new-requires-clause-object : goal.new-requires-clause-object
new-requires-clause-object c =
    subst (λ (n : Node). IsObject (record { node = n; payload = [] })) (sym c.in_ok-copy.ensures)
    (first_whole c.args.tree.now.files c.in_ok-walk.ensures.tree c.in_ok-walk.walk c.in_ok-walk.ensures.entries c.in-Some.root.names.now (record { node = c.in-Some.root.node.now; payload = c.in-Some.root.payload.now }) c.in-Some.ensures)

pub loop-place-init : goal.loop-place-init
loop-place-init c =
    let t = c.args.tree.now.files in
    let w = c.in_ok-walk.walk in
    let first = begun t c.in_ok-walk.ensures.tree w c.in_ok-walk.ensures.entries c.in-Some.root.names.now (record { node = c.in-Some.root.node.now; payload = c.in-Some.root.payload.now }) c.in-Some.ensures in
    let copied = subst (λ (n : Node). IsGrowing t (root_alone n) [] (drop 1 w)) (sym c.in_ok-copy.ensures) first in
    let built = subst (λ (g : Grown). IsGrowing t g.files g.last (drop 1 w)) (sym c.in_ok-builder.ensures) copied in
    (subst (λ (es : Planned). IsGrowing t c.in_ok-builder.builder.files c.in_ok-builder.builder.last es) (sym c.in_ok-advance.ensures.ok) built, c.in_ok-walk.ensures.tree)

pub add_at-requires-clause-names : goal.add_at-requires-clause-names
add_at-requires-clause-names c =
    next_named c.args.tree.now.files c.loop-place.builder.files c.loop-place.builder.last c.loop-place.walk c.in-Some-place.place.names.now (record { node = c.in-Some-place.place.node.now; payload = c.in-Some-place.place.payload.now }) c.in-Some-place.ensures c.loop-place.invariant.0 c.loop-place.invariant.1

pub add_at-requires-clause-object : goal.add_at-requires-clause-object
add_at-requires-clause-object c =
    let t = c.args.tree.now.files in
    let b = c.loop-place.builder in
    let p = c.in-Some-place.place.names.now in
    let o : Object = record { node = c.in-Some-place.place.node.now; payload = c.in-Some-place.place.payload.now } in
    let w = c.loop-place.walk in
    subst IsObject (sym c.in_ok-object.ensures) (is_object t b.files b.last p o (drop 1 w) (next t b.files b.last w p o c.in-Some-place.ensures c.loop-place.invariant.0) c.loop-place.invariant.1)

pub add_at-requires-clause-after : goal.add_at-requires-clause-after
add_at-requires-clause-after c =
    let t = c.args.tree.now.files in
    let b = c.loop-place.builder in
    let p = c.in-Some-place.place.names.now in
    let o : Object = record { node = c.in-Some-place.place.node.now; payload = c.in-Some-place.place.payload.now } in
    let w = c.loop-place.walk in
    is_after t b.files b.last p o (drop 1 w) (next t b.files b.last w p o c.in-Some-place.ensures c.loop-place.invariant.0)

pub add_at-requires-clause-parent : goal.add_at-requires-clause-parent
add_at-requires-clause-parent c =
    let t = c.args.tree.now.files in
    let b = c.loop-place.builder in
    let p = c.in-Some-place.place.names.now in
    let o : Object = record { node = c.in-Some-place.place.node.now; payload = c.in-Some-place.place.payload.now } in
    let w = c.loop-place.walk in
    has_parent t b.files b.last p o (drop 1 w) (next t b.files b.last w p o c.in-Some-place.ensures c.loop-place.invariant.0) c.loop-place.invariant.1

pub loop-place-smaller : goal.loop-place-smaller
loop-place-smaller c =
    let o : Object = record { node = c.in-Some-place.place.node.now; payload = c.in-Some-place.place.payload.now } in
    let one = ap length (head c.loop-place.walk (c.in-Some-place.place.names.now, o) c.in-Some-place.ensures) in
    let left = ap length c.in_ok-advance-2.ensures.ok in
    omega (arith, one, left)

pub loop-place-preserved : goal.loop-place-preserved
loop-place-preserved c =
    let t = c.args.tree.now.files in
    let b = c.loop-place.builder in
    let p : Path = c.in-Some-place.place.names.now in
    let o : Object = record { node = c.in-Some-place.place.node.now; payload = c.in-Some-place.place.payload.now } in
    let w = c.loop-place.walk in
    let more = grown t b.files b.last p o (drop 1 w) (next t b.files b.last w p o c.in-Some-place.ensures c.loop-place.invariant.0) in
    let copied = subst (λ (x : Object). IsGrowing t (fin.insert b.files p x) p (drop 1 w)) (sym c.in_ok-object.ensures) more in
    let built = subst (λ (g : Grown). IsGrowing t g.files g.last (drop 1 w)) (sym c.in_ok-add_at.ensures) copied in
    (subst (λ (es : Planned). IsGrowing t c.add_at.new.builder.files c.add_at.new.builder.last es) (sym c.in_ok-advance-2.ensures.ok) built, c.loop-place.invariant.1)

pub returns : goal.returns
returns c =
    let t = c.args.tree.now.files in
    let b = c.loop-place.builder in
    let over = subst (λ (es : Planned). IsGrowing t b.files b.last es) (walk_over c.loop-place.walk c.in_default-place.ensures) c.loop-place.invariant.0 in
    c.finish.ensures.files ∙ all_grown t b.files b.last over
