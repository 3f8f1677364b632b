-- Listings of the objects below a path (ftw(3)). Each object is listed once, and before its children.
use Rattle.std.specs.Prelude.{◌≡◌, ℕ, ◌+◌, ◌≤◌, Bool, true, cond, ◌&&◌, List, [], ◌∷◌, ◌++◌, map, is_some}
use Rattle.pv_path.specs.Paths.{Path, is_prefix, same_path}
use Rattle.pv_steps.specs.Trees.{Files, places, names_below, child_name, IsPresent}
use Rattle.pv_walk.specs.Removal.{is_below}

-- How often a path is in a list.
abbrev pub times : Path → List Path → ℕ
times q [] = 0
times q (p ∷ ps) = cond (same_path p q) 1 0 + times q ps

-- Whether the second path is directly below the first.
abbrev pub is_child : Path → Path → Bool
is_child path q = is_some (child_name path q)

-- The paths directly below a path at which there is an object.
abbrev pub children_of : Files → Path → List Path
children_of files path = map (λ n. path ++ n ∷ []) (names_below files path)

-- Whether the second path is below the first, and there is an object at it.
abbrev pub stands_below : Files → Path → Path → Bool
stands_below files path q = is_below path q && is_some (places files q)

-- Whether the second path is the first one or is below it, and there is an object at it.
abbrev pub stands_at : Files → Path → Path → Bool
stands_at files path q = is_prefix path q && is_some (places files q)

-- Each child of a listed path that is present comes after it in the list, or is in the work that is left.
abbrev pub ParentsFirst : Files → List Path → List Path → Type 0
ParentsFirst files work [] = Unit {0}
ParentsFirst files work (p ∷ ps) = ((q : Path) → is_child p q ≡ true → IsPresent files q → 1 ≤ times q ps + times q work) × ParentsFirst files work ps

-- A list has each present path below a path once, and nothing else. A directory comes before its children.
pub record IsListing (files : Files) (path : Path) (ps : List Path) : Type 0 where
  pub once : (q : Path) → times q ps ≡ cond (stands_below files path q) 1 0
  pub order : ParentsFirst files [] ps

-- If something below a path comes later in a list, all before it in the list is below the path too.
abbrev pub IsGatheredBelow : Path → List Path → Type 0
IsGatheredBelow path [] = Unit {0}
IsGatheredBelow path (p ∷ ps) = ((q : Path) → is_below path q ≡ true → 1 ≤ times q ps → is_below path p ≡ true) × IsGatheredBelow path ps

-- What is below a path of a list and comes after it, comes directly after it, in one piece.
abbrev pub AreGathered : List Path → Type 0
AreGathered [] = Unit {0}
AreGathered (p ∷ ps) = IsGatheredBelow p ps × AreGathered ps

-- Paths can be removed in order from the last one on. Each is present and listed once, and none is the root. All
-- children of a listed path are listed after it.
pub record AreRemovable (files : Files) (paths : List Path) : Type 0 where
  pub once : (q : Path) → times q paths ≤ cond (is_some (places files q)) 1 0
  pub no_root : times [] paths ≡ 0
  pub order : ParentsFirst files [] paths
