-- Two lists, pair by pair.
use Rattle.std.proofs.Common.{◌≡◌, Bool, ◌&&◌, List, [], ◌∷◌, length, refl, ap, arith}
use Rattle.std.specs.List.{list_all, zip}
use Rattle.std.specs.Cmp.Lexicographic.{pointwise}

-- of two lists that are as long, each pair passes where the zipped list does
pub list_all-zip : {A B : Type 0} (test : A → B → Bool) (xs : List A) (ys : List B) → length xs ≡ length ys → list_all (λ p. test p.0 p.1) (zip xs ys) ≡ pointwise test xs ys
list_all-zip test [] [] e = refl
list_all-zip test [] (y ∷ ys) e = absurd (omega arith)
list_all-zip test (x ∷ xs) [] e = absurd (omega arith)
list_all-zip test (x ∷ xs) (y ∷ ys) e = ap (λ (b : Bool). test x y && b) (list_all-zip test xs ys (omega arith))
