use Rattle.std.proofs.Common.{◌≡◌, ℕ, List, AllPairs, Contains, map, subst, sym, ap, ◌∙◌}
use Rattle.std.proofs.lemmas.List.{map-id}
use Rattle.std.proofs.lemmas.Map.Iter.{iter_end}
use Rattle.pv_path.specs.Paths.{Path}
use Rattle.pv_overlap.specs.declared.pair.Pair.{Pair}
use Rattle.pv_overlap.specs.Answers.{ComesBefore}
use Rattle.pv_overlap.proofs.Walking.{pair_of, pairs_exact, pairs_ordered}
use Rattle.pv_overlap.proofs.walk.listed.Goals as goal

pub returns-clause-exact : goal.returns-clause-exact
returns-clause-exact c = λ pair.
    let e = (iter_end (λ (x : (ℕ × ℕ) × Path). x) c.args.found.entries c.loop-first.yielded c.into_iter-first-iterator.result c.loop-first.first-iterator c.next.new.self c.next.result c.into_iter-first-iterator.ensures.into_iter_gives.0 c.loop-first.yielded_by c.in-None.is c.next.ensures.steps).0 in
    let whole : c.loop-first.pairs ≡ map pair_of c.args.found.entries = c.loop-first.invariant ∙ ap (map pair_of) (sym (map-id c.loop-first.yielded) ∙ e) in
    let w = pairs_exact c.args.found c.into_iter-first-iterator.ensures.into_iter_gives.5 pair in
    (λ h. w.0 (subst (λ (xs : List Pair). Contains xs pair) whole h), λ h. subst (λ (xs : List Pair). Contains xs pair) (sym whole) (w.1 h))

pub returns-clause-ordered : goal.returns-clause-ordered
returns-clause-ordered c =
    let e = (iter_end (λ (x : (ℕ × ℕ) × Path). x) c.args.found.entries c.loop-first.yielded c.into_iter-first-iterator.result c.loop-first.first-iterator c.next.new.self c.next.result c.into_iter-first-iterator.ensures.into_iter_gives.0 c.loop-first.yielded_by c.in-None.is c.next.ensures.steps).0 in
    let whole : c.loop-first.pairs ≡ map pair_of c.args.found.entries = c.loop-first.invariant ∙ ap (map pair_of) (sym (map-id c.loop-first.yielded) ∙ e) in
    subst (λ (xs : List Pair). AllPairs ComesBefore xs) (sym whole) (pairs_ordered c.args.found.entries c.into_iter-first-iterator.ensures.into_iter_gives.5)
