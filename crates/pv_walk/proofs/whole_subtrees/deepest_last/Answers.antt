use Rattle.std.proofs.Common.{◌≡◌, ◌∙◌, ap, length, rules}
use Rattle.std.proofs.lemmas.Fn.{always_returns_same}
use Rattle.std.proofs.lemmas.List.Sorted.{IsNonDecreasingBy-from_sort_by_key}
use Rattle.pv_path.specs.Paths.{Path}
use Rattle.pv_walk.specs.Listing.{times}
use Rattle.pv_walk.proofs.OrderLaws.{deepest_first, times-reverse}
use Rattle.pv_walk.proofs.WholeLaws.{times-moved}
use Rattle.pv_walk.proofs.whole_subtrees.deepest_last.Goals as goal

pub returns-clause-members : goal.returns-clause-members
returns-clause-members c = λ q.
    times-moved q c.into_last_first-ordered.result.items c.sort_by_key.new.self.items c.in_ok-sort_by_key.ensures.permutation
    ∙ ap (times q) c.into_last_first-ordered.ensures.paths ∙ times-reverse q c.args.paths

pub returns-clause-deepest : goal.returns-clause-deepest
returns-clause-deepest c = IsNonDecreasingBy-from_sort_by_key (λ (p : Path). length p) _ c.in_ok-sort_by_key.ensures.sorted (λ a r q k. search rules)

pub returns-clause-order : goal.returns-clause-order
returns-clause-order c =
    deepest_first c.args.paths c.into_last_first-ordered.result.items c.sort_by_key.new.self.items c.into_last_first-ordered.ensures.order c.into_last_first-ordered.ensures.paths
    (IsNonDecreasingBy-from_sort_by_key (λ (p : Path). length p) _ c.in_ok-sort_by_key.ensures.sorted (λ a r q k. search rules))
    (c.in_ok-sort_by_key.ensures.stable (λ (p : Path). length p) (always_returns_same _ (λ a r. r ≡ length a.0.now) _ (λ a r q k. search rules)))
