use Rattle.pv_path.specs.Paths.{Path}
use Rattle.std.proofs.lemmas.Result.{IfOk-from_err}
use Rattle.std.proofs.Common.{◌≡◌, sym, ap, ◌∙◌, List, [], ◌∷◌, ◌++◌, map, ℕ, true, false, take, get_or, append_assoc}
use Rattle.std.proofs.lemmas.List.{append-nil, take_all, map_more}
use Rattle.pv_walk.proofs.EmptyingLaws.{no_names}
use Rattle.pv_walk.proofs.remove.push_children.Goals as goal

pub returns-then-not-is_directory-clause-added : goal.returns-then-not-is_directory-clause-added
returns-then-not-is_directory-clause-added g c =
    let none = no_names 0 (g.T.Tree.state c.args.tree.now) c.args.path.now c.is_directory.ensures.tree (λ e. let no : false ≡ true = c.if-not-is_directory.ensures.kind.1 e in cc) in
    sym (append-nil c.args.work.now.items) ∙ ap (λ (ns : List (List ℕ)). c.args.work.now.items ++ map (λ n. c.args.path.now ++ n ∷ []) ns) (sym none)

pub returns-clause-added : goal.returns-clause-added
returns-clause-added g c =
    c.loop-name.invariant
    ∙ ap (λ (ns : List (List ℕ)). c.args.work.now.items ++ map (λ n. c.args.path.now ++ n ∷ []) ns)
    (take_all c.loop-name.name-index c.as_slice-name-items.result.now c.loop-name-test.false ∙ c.as_slice-name-items.ensures ∙ c.in_ok-names.ensures.names)

pub returns-in_err-names-clause-added : goal.returns-in_err-names-clause-added
returns-in_err-names-clause-added g c = IfOk-from_err c.from_residual.result _ c.from_residual.ensures.0

pub returns-in_err-names-clause-tree : goal.returns-in_err-names-clause-tree
returns-in_err-names-clause-tree g c = g.met.T.Tree.is_tree c.args.tree.now

pub returns-in_err-child-clause-added : goal.returns-in_err-child-clause-added
returns-in_err-child-clause-added g c = IfOk-from_err c.from_residual-in_err-child.result _ c.from_residual-in_err-child.ensures.0

pub returns-in_err-child-clause-tree : goal.returns-in_err-child-clause-tree
returns-in_err-child-clause-tree g c = g.met.T.Tree.is_tree c.args.tree.now

pub returns-in_err-push-clause-added : goal.returns-in_err-push-clause-added
returns-in_err-push-clause-added g c = IfOk-from_err c.from_residual-in_err-push.result _ c.from_residual-in_err-push.ensures.0

pub returns-in_err-push-clause-tree : goal.returns-in_err-push-clause-tree
returns-in_err-push-clause-tree g c = g.met.T.Tree.is_tree c.args.tree.now

pub returns-then-not-is_directory-clause-tree : goal.returns-then-not-is_directory-clause-tree
returns-then-not-is_directory-clause-tree g c = g.met.T.Tree.is_tree c.args.tree.now

pub returns-clause-tree : goal.returns-clause-tree
returns-clause-tree g c = g.met.T.Tree.is_tree c.args.tree.now

pub loop-name-init : goal.loop-name-init
loop-name-init g c = sym (append-nil c.args.work.now.items)

pub loop-name-preserved : goal.loop-name-preserved
loop-name-preserved g c =
    let f = λ (n : List ℕ). c.args.path.now ++ n ∷ [] in
    let names = c.as_slice-name-items.result.now in
    let i = c.loop-name.name-index in
    let made : c.in_ok-child.field-0 ≡ f (get_or names i c.name-item.result) = c.in_ok-child.ensures ∙ ap (λ (n : List ℕ). c.args.path.now ++ n ∷ []) (c.bytes.ensures.value ∙ c.name-item.is) in
    c.in_ok-push.ensures.items
    ∙ ap (λ (ws : List Path). ws ++ c.in_ok-child.field-0 ∷ []) c.loop-name.invariant
    ∙ append_assoc c.args.work.now.items (map f (take i names)) (c.in_ok-child.field-0 ∷ [])
    ∙ ap (λ (ws : List Path). c.args.work.now.items ++ ws) (ap (λ w. map f (take i names) ++ w ∷ []) made ∙ sym (map_more f names i c.name-item.result c.loop-name-test.true))
