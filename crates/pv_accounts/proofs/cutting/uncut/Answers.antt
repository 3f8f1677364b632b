use Rattle.std.proofs.Common.{ap, ◌∙◌, List, ℕ, ◌∷◌}
use Rattle.pv_accounts.proofs.Pieces.{split_cons}
use Rattle.pv_accounts.proofs.cutting.uncut.Goals as goal

pub returns-in-Some : goal.returns-in-Some
returns-in-Some c =
    let first : List ℕ = c.in-Some.field-0.0.now in
    let rest = split_cons c.args.byte c.in-Some.field-0.1.now in
    (first, (rest.0, (rest.1.0, c.in-Some.ensures.parts ∙ ap (λ (ts : List (List ℕ)). first ∷ ts) rest.1.1)))
