use Rattle.std.proofs.Common.{◌≡◌, sym, ap, ◌∙◌, List, [], ◌∷◌, ◌++◌, map, filter, ℕ, true, false}
use Rattle.std.proofs.lemmas.List.{append-nil, take_all}
use Rattle.pv_glob.specs.Matching.{matches}
use Rattle.pv_walk.proofs.FindingLaws.{no_names, matched_more}
use Rattle.pv_walk.proofs.matching.add_listed.Goals as goal

pub returns-then-not-is_directory : goal.returns-then-not-is_directory
returns-then-not-is_directory g c =
    let none = no_names (g.T.Tree.state c.args.tree.now) c.is_directory.ensures.tree c.args.path.now (λ e. let no : false ≡ true = c.if-not-is_directory.ensures.kind.1 e in cc) in
    sym (append-nil c.args.found.now.items) ∙ ap (λ (ns : List (List ℕ)). c.args.found.now.items ++ map (λ n. c.args.path.now ++ n ∷ []) (filter (λ n. matches c.args.plain.now (n ∷ [])) ns)) (sym none)

pub loop-name-preserved : goal.loop-name-preserved
loop-name-preserved g c =
    matched_more (λ n. matches c.args.plain.now (n ∷ [])) (λ n. c.args.path.now ++ n ∷ []) c.args.found.now.items _ _ c.as_slice-name-items.result.now c.loop-name.name-index c.name-item.result
    c.loop-name-test.true c.name-item.is c.loop-name.invariant c.in_ok-add_matched.ensures

pub returns : goal.returns
returns g c =
    c.loop-name.invariant
    ∙ ap (λ (ns : List (List ℕ)). c.args.found.now.items ++ map (λ n. c.args.path.now ++ n ∷ []) (filter (λ n. matches c.args.plain.now (n ∷ [])) ns))
    (take_all c.loop-name.name-index c.as_slice-name-items.result.now c.loop-name-test.false ∙ c.as_slice-name-items.ensures ∙ c.in_ok-names.ensures.names)
