use Rattle.std.proofs.Common.{◌≡◌, ◌∷◌, [], not, rules, sym, subst, ◌∙◌}
use Rattle.std.specs.Prelude.{IsSorted}
use Rattle.std.proofs.lemmas.List.Elements.{filter_from_retain}
use Rattle.pv_path.specs.Paths.{has_staging, path_cmp}
use Rattle.pv_path.proofs.Tests.{if_ok}
use Rattle.pv_create.specs.Reached.{IsReached}
use Rattle.pv_create.proofs.ReachedLaws.{reached_alone, reached_deep, sorted_alone, in_byte_order}
use Rattle.pv_create.proofs.reached.reached_paths.Goals as goal

pub returns-then-not-goes_below-clause-reached : goal.returns-then-not-goes_below-clause-reached
returns-then-not-goes_below-clause-reached g c =
    let adjustment = c.args.adjustment.now in
    let path = c.args.path.now in
    let t = g.T.Tree.state c.args.tree.now in
    let reached = reached_alone adjustment path t c.requires (sym c.goes_below.ensures ∙ c.if-not-goes_below.true) in
    if_ok (λ paths. paths.items ≡ path ∷ []) (λ paths. IsReached adjustment path t paths.items) c.only.result (λ paths is. subst (IsReached adjustment path t) (sym is) reached) c.only.ensures

pub returns-then-not-goes_below-clause-order : goal.returns-then-not-goes_below-clause-order
returns-then-not-goes_below-clause-order g c =
    let path = c.args.path.now in
    if_ok (λ paths. paths.items ≡ path ∷ []) (λ paths. IsSorted path_cmp paths.items) c.only.result (λ paths is. subst (IsSorted path_cmp) (sym is) (sorted_alone path)) c.only.ensures

pub returns-clause-reached : goal.returns-clause-reached
returns-clause-reached g c =
    let kept = filter_from_retain _ (λ q. not (has_staging q)) (λ p x b q h. search rules) _ _ _ c.retain.ensures.filtered in
    reached_deep (g.T.Tree.state c.args.tree.now) c.args.path.now c.in_ok-paths.paths.items c.retain.new.self.items c.in_ok-paths.ensures.paths kept c.args.adjustment.now (sym c.goes_below.ensures ∙ c.if-not-goes_below.false)

pub returns-clause-order : goal.returns-clause-order
returns-clause-order g c =
    let kept = filter_from_retain _ (λ q. not (has_staging q)) (λ p x b q h. search rules) _ _ _ c.retain.ensures.filtered in
    in_byte_order (g.T.Tree.state c.args.tree.now) c.args.path.now c.in_ok-paths.paths.items c.retain.new.self.items c.in_ok-paths.ensures.paths kept
