-- Lines that are written column by column.
use Rattle.std.proofs.Common.{◌≡◌, ℕ, List, [], ◌∷◌, ◌++◌, append_assoc, sym, ap, ◌∙◌}
use Rattle.std.specs.List.{join_with_byte}
use Rattle.pv_image.specs.Writing.{with_columns}

pub joined_columns : (o k : List ℕ) (ts : List (List ℕ)) (r : List ℕ) → with_columns (o ++ k) ts ++ r ≡ o ++ (join_with_byte 32 (k ∷ ts) ++ r)
joined_columns o k [] r = append_assoc o k r
joined_columns o k (t ∷ ts) r =
    ap (λ x. with_columns x ts ++ r) (sym (append_assoc (o ++ k) (32 ∷ []) t))
    ∙ joined_columns ((o ++ k) ++ 32 ∷ []) t ts r
    ∙ append_assoc (o ++ k) (32 ∷ []) (join_with_byte 32 (t ∷ ts) ++ r)
    ∙ append_assoc o k (32 ∷ (join_with_byte 32 (t ∷ ts) ++ r))
    ∙ ap (λ x. o ++ x) (sym (append_assoc k (32 ∷ join_with_byte 32 (t ∷ ts)) r))
