use Rattle.std.proofs.Common.{◌∙◌, [], drop, map, sym, ap, subst}
use Rattle.std.specs.FinMap as fin
use Rattle.pv_path.specs.Paths.{Path}
use Rattle.pv_steps.specs.declared.object.Object.{Object}
use Rattle.pv_steps.specs.Objects.{IsObject}
use Rattle.pv_tree.specs.Growth.{Grown}
use Rattle.pv_tree.specs.Held.{root_alone}
use Rattle.pv_tree.proofs.PlanLaws.{Planned}
use Rattle.pv_tree.proofs.GrowLaws.{IsGrowing, all_grown, walk_over}
use Rattle.pv_folder.proofs.Copying.{some_entry}
use Rattle.pv_image.proofs.MappedLaws.{shown_by}
use Rattle.pv_folder.specs.Merge.{plain, plained}
use Rattle.pv_folder.proofs.PlainGrowth.{comes_after, in_directory, is_named, is_whole, root_begun, root_kind, root_whole, then_grown}
use Rattle.pv_folder.proofs.plain.plain_copy.Goals as goal

pub unreachable-requires : goal.unreachable-requires
unreachable-requires c =
    some_entry c.args.tree.now.files c.in_ok-walk.ensures.tree (sym c.in_ok-walk.ensures.entries ∙ walk_over c.in_ok-walk.walk c.in_default.ensures)

pub new-requires-clause-kind : goal.new-requires-clause-kind
new-requires-clause-kind c =
    ap (λ (x : Object). x.node.kind) c.in_ok-root.ensures
    ∙ root_kind c.args.tree.now.files c.in_ok-walk.ensures.tree c.in_ok-walk.walk c.in_ok-walk.ensures.entries c.in-Some.first.names.now (record { node = c.in-Some.first.node.now; payload = c.in-Some.first.payload.now }) c.in-Some.ensures

pub new-requires-clause-object : goal.new-requires-clause-object
new-requires-clause-object c =
    subst (λ (x : Object). IsObject (record { node = x.node; payload = [] })) (sym c.in_ok-root.ensures)
    (root_whole c.args.tree.now.files c.in_ok-walk.ensures.tree c.in_ok-walk.walk c.in_ok-walk.ensures.entries c.in-Some.first.names.now (record { node = c.in-Some.first.node.now; payload = c.in-Some.first.payload.now }) c.in-Some.ensures)

pub loop-place-init : goal.loop-place-init
loop-place-init c =
    let t = c.args.tree.now.files in
    let w = c.in_ok-walk.walk in
    let first = root_begun t c.in_ok-walk.ensures.tree w c.in_ok-walk.ensures.entries c.in-Some.first.names.now (record { node = c.in-Some.first.node.now; payload = c.in-Some.first.payload.now }) c.in-Some.ensures in
    let copied = subst (λ (x : Object). IsGrowing (plained t) (root_alone x.node) [] (map (shown_by plain) (drop 1 w))) (sym c.in_ok-root.ensures) first in
    let built = subst (λ (g : Grown). IsGrowing (plained t) g.files g.last (map (shown_by plain) (drop 1 w))) (sym c.in_ok-builder.ensures) copied in
    (subst (λ (es : Planned). IsGrowing (plained t) c.in_ok-builder.builder.files c.in_ok-builder.builder.last (map (shown_by plain) es)) (sym c.in_ok-advance.ensures.ok) built, c.in_ok-walk.ensures.tree)

pub add_at-requires-clause-names : goal.add_at-requires-clause-names
add_at-requires-clause-names c =
    is_named c.args.tree.now.files c.loop-place.builder.files c.loop-place.builder.last c.loop-place.walk c.in-Some-place.place.names.now (record { node = c.in-Some-place.place.node.now; payload = c.in-Some-place.place.payload.now }) c.in-Some-place.ensures c.loop-place.invariant.0 c.loop-place.invariant.1

pub add_at-requires-clause-object : goal.add_at-requires-clause-object
add_at-requires-clause-object c =
    subst IsObject (sym c.in_ok-object.ensures)
    (is_whole c.args.tree.now.files c.loop-place.builder.files c.loop-place.builder.last c.loop-place.walk c.in-Some-place.place.names.now (record { node = c.in-Some-place.place.node.now; payload = c.in-Some-place.place.payload.now }) c.in-Some-place.ensures c.loop-place.invariant.0 c.loop-place.invariant.1)

pub add_at-requires-clause-after : goal.add_at-requires-clause-after
add_at-requires-clause-after c =
    comes_after c.args.tree.now.files c.loop-place.builder.files c.loop-place.builder.last c.loop-place.walk c.in-Some-place.place.names.now (record { node = c.in-Some-place.place.node.now; payload = c.in-Some-place.place.payload.now }) c.in-Some-place.ensures c.loop-place.invariant.0 c.loop-place.invariant.1

pub add_at-requires-clause-parent : goal.add_at-requires-clause-parent
add_at-requires-clause-parent c =
    in_directory c.args.tree.now.files c.loop-place.builder.files c.loop-place.builder.last c.loop-place.walk c.in-Some-place.place.names.now (record { node = c.in-Some-place.place.node.now; payload = c.in-Some-place.place.payload.now }) c.in-Some-place.ensures c.loop-place.invariant.0 c.loop-place.invariant.1

pub loop-place-preserved : goal.loop-place-preserved
loop-place-preserved c =
    let t = c.args.tree.now.files in
    let b = c.loop-place.builder in
    let p : Path = c.in-Some-place.place.names.now in
    let o : Object = record { node = c.in-Some-place.place.node.now; payload = c.in-Some-place.place.payload.now } in
    let w = c.loop-place.walk in
    let more = then_grown t b.files b.last w p o c.in-Some-place.ensures c.loop-place.invariant.0 c.loop-place.invariant.1 in
    let copied = subst (λ (x : Object). IsGrowing (plained t) (fin.insert b.files p x) p (map (shown_by plain) (drop 1 w))) (sym c.in_ok-object.ensures) more in
    let built = subst (λ (g : Grown). IsGrowing (plained t) g.files g.last (map (shown_by plain) (drop 1 w))) (sym c.in_ok-add_at.ensures) copied in
    (subst (λ (es : Planned). IsGrowing (plained t) c.add_at.new.builder.files c.add_at.new.builder.last (map (shown_by plain) es)) (sym c.in_ok-advance-2.ensures.ok) built, c.loop-place.invariant.1)

pub returns-clause-files : goal.returns-clause-files
returns-clause-files c =
    let t = c.args.tree.now.files in
    let b = c.loop-place.builder in
    let over = subst (λ (es : Planned). IsGrowing (plained t) b.files b.last (map (shown_by plain) es)) (walk_over c.loop-place.walk c.in_default-place.ensures) c.loop-place.invariant.0 in
    c.finish.ensures.files ∙ all_grown (plained t) b.files b.last over
