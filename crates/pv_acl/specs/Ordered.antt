-- Lists that are in order. A test says of two elements whether the first comes before the second.
use Rattle.std.specs.Prelude.{Bool, true, ◌&&◌, List, [], ◌∷◌, ◌++◌, filter}
use Rattle.std.specs.List.{list_all}

-- Whether each element comes before all later ones.
abbrev pub is_ordered_by : {X : Type 0} → (X → X → Bool) → List X → Bool
is_ordered_by before [] = true
is_ordered_by before (x ∷ xs) = list_all (before x) xs && is_ordered_by before xs

-- Whether each element comes before this one.
abbrev pub all_before_by : {X : Type 0} → (X → X → Bool) → List X → X → Bool
all_before_by before xs y = list_all (λ x. before x y) xs

-- An element put among others. First come those that are before it, then the element, then those that it is before.
-- An element that is neither before nor after it is replaced.
abbrev pub put_by : {X : Type 0} → (X → X → Bool) → X → List X → List X
put_by before y xs = filter (λ x. before x y) xs ++ y ∷ filter (before y) xs
