use Rattle.std.proofs.Common.{◌≡◌, ℕ, List, Option, ◌+◌, ◌-◌, ◌∷◌, ◌++◌, [], Some, None, replicate, arith, ap, ◌∙◌}
use Rattle.std.proofs.lemmas.List.{replicate_more}
use Rattle.pv_glob.proofs.search.start.Goals as goal

pub loop-preserved : goal.loop-preserved
loop-preserved c =
    let one = replicate_more {X = Option (List ℕ)} (c.loop.counter - 1) None in
    let count : c.loop.counter - 1 + 1 ≡ c.loop.counter + 1 - 1 = omega arith in
    c.in_ok-push-2.ensures.items ∙ ap (λ (x : List (Option (List ℕ))). x ++ None ∷ []) c.loop.invariant ∙ ap (λ (x : List (Option (List ℕ))). Some [] ∷ x) (one ∙ ap (λ n. replicate n None) count)
