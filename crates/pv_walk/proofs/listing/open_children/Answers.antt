use Rattle.pv_walk.specs.declared.listing.Task.{Task}
use Rattle.std.proofs.lemmas.Result.{IfOk-from_err}
use Rattle.std.proofs.Common.{◌≡◌, sym, ap, ◌∙◌, List, [], ◌∷◌, ◌++◌, map, ℕ, true, false, take, get_or, append_assoc}
use Rattle.std.proofs.lemmas.List.{append-nil, take_all, map_more}
use Rattle.pv_steps.specs.Trees.{names_below}
use Rattle.pv_walk.specs.declared.listing.Task.TheVariants.{Open}
use Rattle.pv_walk.proofs.EmptyingLaws.{no_names}
use Rattle.pv_walk.proofs.listing.open_children.Goals as goal

pub returns-then-not-is_directory : goal.returns-then-not-is_directory
returns-then-not-is_directory g c =
    let t = g.T.Tree.state c.args.tree.now in
    let none = no_names 0 t c.in_ok-at.at c.is_directory.ensures.tree (λ e. let no : false ≡ true = c.if-not-is_directory.ensures.kind.1 e in cc) in
    let is : names_below t (c.args.source.now ++ c.args.rest.now) ≡ [] = ap (names_below t) (sym (c.in_ok-at.ensures ∙ ap (λ r. c.args.source.now ++ r) c.names.ensures.value)) ∙ none in
    record { left = sym (append-nil c.args.work.now.items) ∙ ap (λ (ns : List (List ℕ)). c.args.work.now.items ++ map (λ n. Open (c.args.rest.now ++ n ∷ [])) ns) (sym is) }

pub returns : goal.returns
returns g c =
    let t = g.T.Tree.state c.args.tree.now in
    record {
      left =
          c.loop-name.invariant
          ∙ ap (λ (ns : List (List ℕ)). c.args.work.now.items ++ map (λ n. Open (c.args.rest.now ++ n ∷ [])) ns)
          (take_all c.loop-name.name-index c.as_slice-name-items.result.now c.loop-name-test.false ∙ c.as_slice-name-items.ensures ∙ c.in_ok-names.ensures.names ∙ ap (names_below t) (c.in_ok-at.ensures ∙ ap (λ r. c.args.source.now ++ r) c.names.ensures.value));
    }

pub returns-in_err-at : goal.returns-in_err-at
returns-in_err-at g c = record { left = IfOk-from_err c.from_residual.result _ c.from_residual.ensures.0 }

pub returns-in_err-names : goal.returns-in_err-names
returns-in_err-names g c = record { left = IfOk-from_err c.from_residual-in_err-names.result _ c.from_residual-in_err-names.ensures.0 }

pub returns-in_err-child : goal.returns-in_err-child
returns-in_err-child g c = record { left = IfOk-from_err c.from_residual-in_err-child.result _ c.from_residual-in_err-child.ensures.0 }

pub returns-in_err-push : goal.returns-in_err-push
returns-in_err-push g c = record { left = IfOk-from_err c.from_residual-in_err-push.result _ c.from_residual-in_err-push.ensures.0 }

pub loop-name-init : goal.loop-name-init
loop-name-init g c = sym (append-nil c.args.work.now.items)

pub loop-name-preserved : goal.loop-name-preserved
loop-name-preserved g c =
    let f = λ (n : List ℕ). Open (c.args.rest.now ++ n ∷ []) in
    let names = c.as_slice-name-items.result.now in
    let i = c.loop-name.name-index in
    let made : Open c.in_ok-child.field-0 ≡ f (get_or names i c.name-item.result) = ap Open (c.in_ok-child.ensures ∙ ap (λ (n : List ℕ). c.args.rest.now ++ n ∷ []) (c.bytes.ensures.value ∙ c.name-item.is)) in
    c.in_ok-push.ensures.items
    ∙ ap (λ (ws : List Task). ws ++ Open c.in_ok-child.field-0 ∷ []) c.loop-name.invariant
    ∙ append_assoc c.args.work.now.items (map f (take i names)) (Open c.in_ok-child.field-0 ∷ [])
    ∙ ap (λ (ws : List Task). c.args.work.now.items ++ ws) (ap (λ w. map f (take i names) ++ w ∷ []) made ∙ sym (map_more f names i c.name-item.result c.loop-name-test.true))
