use Rattle.std.proofs.Common.{◌≡◌, ◌≤◌, ◌∷◌, ◌==◌, ◌∙◌, [], not, false, filter, map, length, drop, ap, sym, refl, arith}
use Rattle.pv_path.specs.Paths.{Path, is_prefix}
use Rattle.std.proofs.lemmas.List.{drop_all}
use Rattle.pv_table.proofs.staying.begins.Goals as goal

-- a path other than the root is no prefix of it
no_prefix : (p : Path) → 1 ≤ length p → is_prefix p [] ≡ false
no_prefix [] l = absurd (omega arith)
no_prefix (n ∷ p) l = refl

pub returns-in-len1-up-names : goal.returns-in-len1-up-names
returns-in-len1-up-names c =
    let none : drop c.loop-piece.piece-index c.args.pieces.now ≡ [] = drop_all c.loop-piece.piece-index c.args.pieces.now c.loop-piece-test.false in
    sym (
    sym c.loop-piece.invariant
    ∙ ap (λ pieces. is_prefix c.loop-piece.names.now (filter (λ name. not (length name == 0)) (map (λ s. s.now) pieces))) none
    ∙ no_prefix c.loop-piece.names.now c.in-len1-up-names.len_at_least
    )
