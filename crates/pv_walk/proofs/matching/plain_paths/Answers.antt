use Rattle.std.proofs.Common.{◌&&◌, sym, ap, ◌∙◌, List, [], ◌∷◌, ◌++◌, is_some, take}
use Rattle.std.specs.List.{list_any}
use Rattle.std.proofs.lemmas.List.{take_all, take_more}
use Rattle.pv_path.specs.Paths.{Path}
use Rattle.pv_glob.specs.declared.element.Element.{Element}
use Rattle.pv_glob.specs.Matching.{matches}
use Rattle.pv_steps.specs.Trees.{places}
use Rattle.pv_walk.specs.Finding.{extends}
use Rattle.pv_walk.specs.Removal.{is_one_of}
use Rattle.pv_walk.proofs.FindingLaws.{root_matches, root_present, one_component_more}
use Rattle.pv_walk.proofs.matching.plain_paths.Goals as goal

pub returns-then-not-is_present : goal.returns-then-not-is_present
returns-then-not-is_present g c = absurd (root_present (g.T.Tree.state c.args.tree.now) c.is_present.ensures.tree
    (ap (λ (p : Path). is_some (places (g.T.Tree.state c.args.tree.now) p)) (sym c.root-root.ensures) ∙ sym c.if-not-is_present.ensures.present))

pub loop-component-init : goal.loop-component-init
loop-component-init g c = λ q.
    ap (λ (xs : List Path). is_one_of xs q) (c.in_ok-push.ensures.items ∙ ap (λ (xs : List Path). xs ++ c.root-root.result ∷ []) c.new-paths.ensures.items ∙ ap (λ (r : Path). r ∷ []) c.root-root.ensures)
    ∙ root_matches (g.T.Tree.state c.args.tree.now) c.is_present.ensures.tree q

pub loop-component-preserved : goal.loop-component-preserved
loop-component-preserved g c = λ q.
    let i = c.loop-component.component-index in
    let items = c.components-component-items.result.now in
    one_component_more (g.T.Tree.state c.args.tree.now) c.is_present.ensures.tree _ c.component-item.result _ _ c.loop-component.invariant
    (λ r. c.in_ok-paths.ensures r ∙ ap (λ (ps : List Path). list_any (λ p. extends (g.T.Tree.state c.args.tree.now) (c.component-item.result ∷ []) p r) ps) c.deref.ensures.value) q
    ∙ ap (λ (cs : List (List Element)). is_some (places (g.T.Tree.state c.args.tree.now) q) && matches cs q) (sym (take_more items i c.component-item.result c.loop-component-test.true ∙ ap (λ (e : List Element). take i items ++ e ∷ []) (sym c.component-item.is)))

pub returns : goal.returns
returns g c = λ q. c.loop-component.invariant q
    ∙ ap (λ (cs : List (List Element)). is_some (places (g.T.Tree.state c.args.tree.now) q) && matches cs q) (take_all c.loop-component.component-index c.components-component-items.result.now c.loop-component-test.false ∙ c.components-component-items.ensures)
