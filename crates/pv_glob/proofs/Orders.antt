-- The order of words and of paths, place by place.
use Rattle.std.proofs.Common.{◌≡◌, ℕ, List, [], ◌∷◌, length, map, refl, ap, ◌∙◌}
use Rattle.std.specs.Ordering.{nat_cmp, on, ordering_then}
use Rattle.std.specs.declared.cmp.Ordering.{Ordering}
use Rattle.std.specs.Cmp.Lexicographic.{slice_cmp}
use Rattle.std.proofs.lemmas.List.{length-map}
use Rattle.pv_glob.specs.Words.{rank, word_cmp}

-- what is compared may be read off the elements
slice_cmp-map : {X Y : Type 0} (f : X → Y) (order : Y → Y → Ordering) (xs ys : List X) → slice_cmp order (map f xs) (map f ys) ≡ slice_cmp (on f order) xs ys
slice_cmp-map f order [] [] = refl
slice_cmp-map f order [] (y ∷ ys) = refl
slice_cmp-map f order (x ∷ xs) [] = refl
slice_cmp-map f order (x ∷ xs) (y ∷ ys) = ap (ordering_then (order (f x) (f y))) (slice_cmp-map f order xs ys)

-- the order of words, by their bytes
pub words_by_bytes : (a b : List ℕ) → word_cmp a b ≡ ordering_then (nat_cmp (length a) (length b)) (slice_cmp (on rank nat_cmp) a b)
words_by_bytes a b =
    ap (λ n. ordering_then (nat_cmp n (length (map rank b))) (slice_cmp nat_cmp (map rank a) (map rank b))) (length-map a rank)
    ∙ ap (λ n. ordering_then (nat_cmp (length a) n) (slice_cmp nat_cmp (map rank a) (map rank b))) (length-map b rank)
    ∙ ap (ordering_then (nat_cmp (length a) (length b))) (slice_cmp-map rank nat_cmp a b)
