use Rattle.std.proofs.Common.{◌≡◌, ◌<◌, ◌∷◌, [], Some, None, slice_get, length, arith, ◌++◌, List, ℕ, drop, map, sym, ap, ◌∙◌, append-nil}
use Rattle.std.specs.List.{flat_map}
use Rattle.std.specs.FinMap as fin
use Rattle.pv_path.specs.Paths.{Path}
use Rattle.pv_steps.specs.declared.object.Object.{Object}
use Rattle.pv_image.specs.Written.{written_object, written_tree}
use Rattle.pv_image.specs.Writing.{node_line}
use Rattle.pv_image.proofs.EmptyLaws.{entries_told, told_parts}
use Rattle.pv_image.proofs.MappedLaws.{first_by, rest_by, shown_by}
use Rattle.pv_image.proofs.Wholes.{walk_line, walk_over}
use Rattle.std.proofs.lemmas.Result.{IfOk-from_err}
use Rattle.pv_image.proofs.writer.add_nodes.Goals as goal

pub loop-place-init : goal.loop-place-init
loop-place-init c =
    ap (λ (v : List (Path × Object)). c.args.output.now.items ++ flat_map node_line (map (shown_by (written_object c.args.extent)) v)) c.in_ok-walk.ensures.entries
    ∙ ap (λ (v : List (Path × Object)). c.args.output.now.items ++ flat_map node_line v) (entries_told c.args.extent c.args.tree.now.files)

pub loop-place-preserved : goal.loop-place-preserved
loop-place-preserved c =
    let extent = c.args.extent in
    let f = written_object extent in
    let all : List (Path × Object) = fin.entries (written_tree extent c.args.tree.now.files) in
    let o : Object = record { node = c.in-Some.place.node.now; payload = c.in-Some.place.payload.now } in
    let e : Path × Object = (c.in-Some.place.names.now, o) in
    let written_part : List (Path × Object) = map (shown_by f) c.loop-place.walk in
    ap (λ (v : List (Path × Object)). c.add_node.new.output.items ++ flat_map node_line (map (shown_by f) v)) c.in_ok-advance.ensures.ok
    ∙ ap (λ (v : List (Path × Object)). c.add_node.new.output.items ++ flat_map node_line v) (sym (rest_by f c.loop-place.walk))
    ∙ ap (λ (x : List ℕ). x ++ flat_map node_line (drop 1 written_part)) c.in_ok-add_node.ensures
    ∙ ap (λ (b : List ℕ). (c.loop-place.output.items ++ node_line (c.in-Some.place.names.now, record { node = c.in-Some.place.node.now; payload = b })) ++ flat_map node_line (drop 1 written_part)) c.written_payload-payload.ensures
    ∙ ap (λ (x : Object). (c.loop-place.output.items ++ node_line (c.in-Some.place.names.now, x)) ++ flat_map node_line (drop 1 written_part)) (told_parts extent o)
    ∙ walk_line c.args.output.now.items written_part all (shown_by f e) (first_by f c.loop-place.walk e c.in-Some.ensures) c.loop-place.output.items c.loop-place.invariant

pub returns-clause-text : goal.returns-clause-text
returns-clause-text c =
    sym (append-nil c.loop-place.output.items)
    ∙ ap (λ (v : List (Path × Object)). c.loop-place.output.items ++ flat_map node_line (map (shown_by (written_object c.args.extent)) v)) (sym (walk_over c.loop-place.walk c.in_default.ensures))
    ∙ c.loop-place.invariant

pub returns-in_err-walk-clause-text : goal.returns-in_err-walk-clause-text
returns-in_err-walk-clause-text c = IfOk-from_err c.from_residual.result _ c.from_residual.ensures.0

pub returns-in_err-walk-clause-tree : goal.returns-in_err-walk-clause-tree
returns-in_err-walk-clause-tree c = c.args.tree.now.tree

pub returns-in_err-add_node-clause-text : goal.returns-in_err-add_node-clause-text
returns-in_err-add_node-clause-text c = IfOk-from_err c.from_residual-in_err-add_node.result _ c.from_residual-in_err-add_node.ensures.0

pub returns-in_err-add_node-clause-tree : goal.returns-in_err-add_node-clause-tree
returns-in_err-add_node-clause-tree c = c.args.tree.now.tree

pub returns-in_err-advance-clause-text : goal.returns-in_err-advance-clause-text
returns-in_err-advance-clause-text c = IfOk-from_err c.from_residual-in_err-advance.result _ c.from_residual-in_err-advance.ensures.0

pub returns-in_err-advance-clause-tree : goal.returns-in_err-advance-clause-tree
returns-in_err-advance-clause-tree c = c.args.tree.now.tree

shorter : (xs ys : List (Path × Object)) (x : Path × Object) → Some x ≡ slice_get xs 0 → ys ≡ drop 1 xs → length ys < length xs
shorter [] ys x here rest = absurd (let no : Some x ≡ None = here in cc)
shorter (y ∷ xs) ys x here rest = let same : length ys ≡ length xs = ap length rest in omega (arith, same)

pub loop-place-smaller : goal.loop-place-smaller
loop-place-smaller c = shorter c.loop-place.walk c.advance.new.self (c.in-Some.place.names.now, record { node = c.in-Some.place.node.now; payload = c.in-Some.place.payload.now }) c.in-Some.ensures c.in_ok-advance.ensures.ok
