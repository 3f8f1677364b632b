-- Edits of a tree with their timestamps, and intermediate states of removing (this project's own).
use Rattle.std.specs.Prelude.{◌≡◌, ◌⊎◌, ℕ, Bool, true, false, List, [], ◌∷◌, length, filter, None, is_some, fold, if◌then◌else◌}
use Rattle.std.specs.FinMap as fin
use Rattle.pv_path.specs.Paths.{Path, is_prefix, same_path}
use Rattle.pv_steps.specs.Objects.{modified}
use Rattle.pv_steps.specs.Trees.{Files, Places, places, names_below, IsAbsentIn}
use Rattle.pv_steps.specs.Steps.{touched, on_at}
use Rattle.pv_steps.specs.Same.{object_states}

-- The objects without those at and below a path.
abbrev pub cut : Path → Places → Places
cut path t = λ q. if is_prefix path q then None else t q

-- The objects after the one at a path was removed with all below it. The directory above has lost a name. If nothing
-- was there, nothing has changed.
abbrev pub taken : ℕ → Path → Places → Places
taken now path t = if is_some (t path) then touched now path (cut path t) else t

-- The same for several paths, one after the other.
abbrev pub all_taken : ℕ → List Path → Places → Places
all_taken now paths t = fold (λ u path. taken now path u) t paths

-- The objects without those below a path. The one at the path stays.
abbrev pub cut_below : Path → Places → Places
cut_below path t = λ q. if is_prefix path q then (if same_path path q then t q else None) else t q

-- The objects after all below a directory was removed. If the directory had a name in it, it has new timestamps.
abbrev pub emptied : ℕ → Path → Files → Places
emptied now path files = emptied_of (names_below files path)
  where
    emptied_of : List (List ℕ) → Places
    emptied_of [] = places files
    emptied_of (name ∷ names) = on_at path (modified now) (cut_below path (places files))

-- How many objects are at and below a path.
abbrev pub count_at : Files → Path → ℕ
count_at files path = length (filter (is_prefix path) (fin.keys files))

-- ---- intermediate states

-- Only objects in a region may be gone. All others, and those of the region that are still there, are as before,
-- except for timestamps.
pub record Pruned (inside : Path → Bool) (t u : Files) : Type 0 where
  pub outside : (q : Path) → inside q ≡ false → object_states (places u) q ≡ object_states (places t) q
  pub within : (q : Path) → inside q ≡ true → IsAbsentIn (places u) q ⊎ (object_states (places u) q ≡ object_states (places t) q)

-- Outside of a region nothing has changed except timestamps.
abbrev pub SameOutside : (Path → Bool) → Files → Files → Type 0
SameOutside inside t u = (q : Path) → inside q ≡ false → object_states (places u) q ≡ object_states (places t) q
