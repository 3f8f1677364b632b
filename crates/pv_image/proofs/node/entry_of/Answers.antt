use Rattle.std.proofs.Common.{◌≡◌, ◌≤◌, ◌++◌, ◌∷◌, [], Bor, List, ℕ, length, length-append, subst, arith}
use Rattle.std.specs.Prelude.{IfOk}
use Rattle.pv_image.specs.Spelling.{IsEntry, columns}
use Rattle.pv_image.specs.Reading.{Reads, texts}
use Rattle.pv_image.proofs.Paths.{as_many, seven_and_last}
use Rattle.pv_image.proofs.node.entry_of.Goals as goal

pub returns-in-len8-up : goal.returns-in-len8-up
returns-in-len8-up c =
    subst (λ (ts : List (List ℕ)). IfOk c.entry_with.result (Reads (columns c.args.version) (IsEntry c.args.version) ts)) (seven_and_last c.args.pieces.now _ _ _ _ _ _ _ _ c.in-len8-up.len_at_least)
    c.entry_with.ensures

eight_or_more : (ps : List (Bor (List ℕ))) (a b c d e f g : List ℕ) (more : List (List ℕ)) (last : List ℕ) → texts ps ≡ a ∷ b ∷ c ∷ d ∷ e ∷ f ∷ g ∷ more ++ last ∷ [] → 8 ≤ length ps
eight_or_more ps a b c d e f g more last is =
    let all : length ps ≡ length (a ∷ b ∷ c ∷ d ∷ e ∷ f ∷ g ∷ more ++ last ∷ []) = as_many ps (a ∷ b ∷ c ∷ d ∷ e ∷ f ∷ g ∷ more ++ last ∷ []) is in
    let rest = length-append more (last ∷ []) in
    omega (arith, all, rest)

pub returns-in_default : goal.returns-in_default
returns-in_default c = λ x is e. let eight : 8 ≤ length c.args.pieces.now = eight_or_more c.args.pieces.now _ _ _ _ _ _ _ _ _ e in omega (arith, eight, c.in_default.len_below)
