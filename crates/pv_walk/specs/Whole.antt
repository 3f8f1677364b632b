-- What can be removed with everything below it (this project's own).
use Rattle.std.specs.Prelude.{ℕ, Bool, not, ◌&&◌, ◌==◌, List, length, filter, is_some, ◌||◌}
use Rattle.std.specs.List.Sorted.{IsStrictlySortedBy}
use Rattle.std.specs.Ordering.{nat_cmp, ordering_then}
use Rattle.std.specs.declared.cmp.Ordering.{Ordering}
use Rattle.std.specs.FinMap as fin
use Rattle.pv_path.specs.Paths.{Path, path_cmp, is_prefix}
use Rattle.pv_steps.specs.Trees.{Files, places}
use Rattle.std.specs.List.{list_all}

-- Whether everything at and below a path passes a test.
abbrev pub all_at : (Path → Bool) → Files → Path → Bool
all_at test t path = list_all (λ q. not (is_prefix path q) || test q) (fin.keys t)

-- Whether an object can go with everything below it: it is present, it is not the root, and everything at and below
-- it passes a test.
abbrev pub goes_whole : (Path → Bool) → Files → Path → Bool
goes_whole test files path = is_some (places files path) && not (length path == 0) && all_at test files path

-- How many paths of a tree pass a test.
abbrev pub count_of : (Path → Bool) → Files → ℕ
count_of test files = length (filter test (fin.keys files))

-- The order in which paths are removed: more names first, and those with the same number of names in byte order.
abbrev pub depth_cmp : Path → Path → Ordering
depth_cmp p q = ordering_then (nat_cmp (length q) (length p)) (path_cmp p q)

-- Paths are in this order, each once.
abbrev pub AreDeepestFirst : List Path → Type 0
AreDeepestFirst paths = IsStrictlySortedBy depth_cmp paths
