-- Walks over a tree in the order of its paths. What is left of a walk is given by the slots that are open, from the
-- root down.
use Rattle.std.specs.Prelude.{◌≡◌, ℕ, zero, suc, ◌<◌, Bool, cond, List, [], ◌∷◌, ◌++◌, map, length, take, drop, Some, option_map, slice_get}
use Rattle.std.specs.Option.{option_map_or}
use Rattle.std.specs.FinMap as fin
use Rattle.pv_path.specs.Paths.{Path}
use Rattle.pv_steps.specs.declared.object.Object.{Object}
use Rattle.pv_tree.specs.declared.slot.Slot.{Slot}
use Rattle.pv_tree.specs.Slots.{number_in, below, entries_below, entries_in, IsForest, object_of}

-- The children of a slot, in the order of their names.
abbrev pub children_in : List Slot → ℕ → List (List ℕ × ℕ)
children_in slots i = option_map_or (λ s. fin.entries s.content.children) (slice_get slots i) []

-- The object of a slot, with the path of the root.
abbrev pub here_in : List Slot → ℕ → List (Path × Object)
here_in slots i = option_map_or (λ s. ([], object_of s) ∷ []) (slice_get slots i) []

-- What is below the children of a slot, from the child at an index on.
abbrev pub below_from : ℕ → List Slot → ℕ → ℕ → List (Path × Object)
below_from depth slots i k = entries_below (entries_in depth slots) (drop k (children_in slots i))

-- What is left of a walk that is at a path. First comes the object there, if `first` says so. Then comes what is
-- below each open slot, from the child with which the walk goes on. Only paths with fewer names than the depth are
-- visited.
abbrev pub left_in : Bool → ℕ → List Slot → Path → List (ℕ × ℕ) → List (Path × Object)
left_in first zero slots names opened = []
left_in first (suc depth) slots names [] = []
left_in first (suc depth) slots [] (x ∷ opened) = cond first (here_in slots x.0) [] ++ below_from depth slots x.0 x.1
left_in first (suc depth) slots (name ∷ names) (x ∷ opened) =
    map (below name) (left_in first depth slots names opened) ++ below_from depth slots x.0 x.1

-- The open slots are those on the way to a path, or there are none.
pub record IsWay (slots : List Slot) (names : Path) (opened : List (ℕ × ℕ)) : Type 0 where
  pub depth : 0 < length opened → length opened ≡ suc (length names)
  pub numbers : (m i : ℕ) → option_map (λ x. x.0) (slice_get opened m) ≡ Some i → number_in slots (take m names) ≡ Some i

-- A walk over slots that are a forest.
pub record IsWalk (slots : List Slot) (names : Path) (opened : List (ℕ × ℕ)) : Type 0 where
  pub forest : IsForest slots
  pub way : IsWay slots names opened
