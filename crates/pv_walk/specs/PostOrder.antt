-- Post-order: the order of paths in which a directory comes after everything below it (ftw(3), FTW_DEPTH). The manual
-- leaves the order of the children of one directory open. Here it is byte order.
use Rattle.std.specs.Prelude.{◌≡◌, ◌⊎◌, Bool, true, false, List, [], ◌∷◌, ◌++◌, map}
use Rattle.std.specs.List.Sorted.{IsStrictlySortedBy}
use Rattle.std.specs.Ordering.{ordering_then}
use Rattle.std.specs.declared.cmp.Ordering.{Ordering}
use Rattle.std.specs.declared.cmp.Ordering.TheVariants.{Less, Equal, Greater}
use Rattle.pv_path.specs.Names.{name_cmp}
use Rattle.pv_path.specs.Paths.{Path, staging_of}
use Rattle.pv_steps.specs.declared.step.Step.{Step}
use Rattle.pv_steps.specs.declared.step.Step.TheVariants.{Rename}
use Rattle.pv_steps.specs.Trees.{Files, places}
use Rattle.pv_walk.specs.Listing.{stands_at, stands_below}
use Rattle.pv_walk.specs.Removal.{is_directory_at, is_one_of, removal_at, DonePart}

-- The order of two paths. A path comes after each path below it. Other paths are compared name by name, in byte order.
-- Example: `/a/b`, `/a/c`, `/a`, `/b`.
abbrev pub post_cmp : Path → Path → Ordering
post_cmp [] [] = Equal
post_cmp [] (name ∷ path) = Greater
post_cmp (name ∷ path) [] = Less
post_cmp (name ∷ path) (other ∷ rest) = ordering_then (name_cmp name other) (post_cmp path rest)

-- Paths are in this order, each once.
abbrev pub AreInPostOrder : List Path → Type 0
AreInPostOrder paths = IsStrictlySortedBy post_cmp paths

-- The steps done are the first ones of this list: one step for each path that is due, in post-order. They may be none,
-- or all. `nothing` is for a call that ends before it has the list.
pub data DoesInPostOrder (due : Path → Bool) (step : Path → Step) (before behind : List Step) : Type 0 where
  nothing : behind ≡ before → DoesInPostOrder due step before behind
  first : (paths : List Path) → ((q : Path) → is_one_of paths q ≡ due q) → AreInPostOrder paths → DonePart (map step paths) before behind → DoesInPostOrder due step before behind

-- All steps of such a list were done.
pub record DidInPostOrder (due : Path → Bool) (step : Path → Step) (before behind : List Step) : Type 0 where
  pub paths : List Path
  pub are : (q : Path) → is_one_of paths q ≡ due q
  pub in_order : AreInPostOrder paths
  pub all : behind ≡ before ++ map step paths

-- What is at and below some paths is removed, one path after the other, each in post-order. The steps may end anywhere,
-- but no path is begun before the one before it is done.
abbrev pub TakesInTurn : Files → List Path → List Step → List Step → Type 0
TakesInTurn t [] before behind = behind ≡ before
TakesInTurn t (path ∷ paths) before behind =
    DoesInPostOrder (stands_at t path) (removal_at t) before behind
    ⊎ ((cleared : List Step) × DidInPostOrder (stands_at t path) (removal_at t) before cleared × TakesInTurn t paths cleared behind)

-- Whether an object must go before one Rename can put something else at a path (rename(2)). The two tests say whether
-- the new object is a directory, and whether there is a directory at the path. If both hold, everything below the path
-- must go. If neither holds, nothing must go. Otherwise everything at and below the path must go.
abbrev pub must_go_for : Bool → Bool → Files → Path → Path → Bool
must_go_for true true t path q = stands_below t path q
must_go_for false false t path q = false
must_go_for new old t path q = stands_at t path q

-- Whether an object must go before one Rename can put what is staged for a path in its place.
abbrev pub must_go : Files → Path → Path → Bool
must_go t path = must_go_for (is_directory_at (places t) (staging_of path)) (is_directory_at (places t) path) t path

-- The steps of publishing, or the first ones of them. What must go is removed in post-order (`clears`: perhaps not all).
-- Once all of it is removed, one Rename puts what is staged in its place (`renames`).
pub data PublishesInOrder (t : Files) (path : Path) (before behind : List Step) : Type 0 where
  clears : DoesInPostOrder (must_go t path) (removal_at t) before behind → PublishesInOrder t path before behind
  renames : (cleared : List Step) → DidInPostOrder (must_go t path) (removal_at t) before cleared → behind ≡ cleared ++ Rename (staging_of path) path ∷ [] → PublishesInOrder t path before behind
