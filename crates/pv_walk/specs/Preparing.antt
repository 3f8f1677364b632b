-- Preparing a path: objects at staging names along it are removed, and absent parents are made (tmpfiles.d(5)).
use Rattle.std.specs.Prelude.{◌≡◌, ◌≢◌, ℕ, true, false, List, [], length, filter, fold, Option, Some, None, is_some, is_none, if◌then◌else◌}
use Rattle.pv_path.specs.Paths.{Path, is_prefix, parent_of, has_staging, staging_of}
use Rattle.pv_steps.specs.declared.node.Kind.TheVariants.{Directory}
use Rattle.pv_steps.specs.declared.object.Object.{Object}
use Rattle.pv_steps.specs.declared.step.Step.{Step}
use Rattle.pv_steps.specs.Objects.{object_state}
use Rattle.pv_steps.specs.Trees.{Files, Places, places, IsPresent, IsKind, IsAbsentIn}
use Rattle.pv_steps.specs.Steps.{made}
use Rattle.pv_steps.specs.Same.{object_states}
use Rattle.pv_steps.specs.Content.{Removes}
use Rattle.pv_walk.specs.Edits.{all_taken}
use Rattle.pv_walk.specs.declared.new_file.NewFile.{NewFile}
use Rattle.pv_walk.specs.declared.new_file.NewKind.TheVariants as new
use Rattle.pv_walk.specs.Staging.{prefixes, staging_names, is_under_any, new_object}
use Rattle.pv_walk.specs.Putting.{IsPutStep}

-- ---- what it leaves, with timestamps

-- The paths above a path, except the root, from the root on.
abbrev pub parents_of : Path → List Path
parents_of path = prefixes (parent_of path)

-- A parent is made as a directory with mode 0755 that belongs to root.
abbrev pub parent_file : NewFile
parent_file = record { what = new.Directory; mode = 0o755; uid = 0; gid = 0 }

-- The objects after such a parent was made, if nothing is at its path.
abbrev pub with_parent : ℕ → Places → Path → Places
with_parent now t place = if is_some (t place) then t else made now place (new_object parent_file now) t

-- The same for each path above a path, from the root on.
abbrev pub with_parents : ℕ → Path → Places → Places
with_parents now path t = fold (with_parent now) t (parents_of path)

-- The objects after what an earlier run staged along a path was removed, and then absent parents were made.
abbrev pub prepared : ℕ → Path → Places → Places
prepared now path t = with_parents now path (all_taken now (staging_names path) t)

-- How many parents of a path are absent.
abbrev pub parent_count : Path → Files → ℕ
parent_count path t = length (filter (λ place. is_none (places t place)) (parents_of path))

-- ---- what it needs

-- The first path is a proper prefix of the second. The root is above every other path.
abbrev pub IsAbove : Path → Path → Type 0
IsAbove q path = (is_prefix q path ≡ true) × (q ≢ path)

-- Each object above a path is a directory.
abbrev pub CanPass : Path → Files → Type 0
CanPass path t = (place : Path) → IsAbove place path → IsPresent t place → IsKind Directory t place

-- Nothing is at the staging path of a path, or of a path above it.
abbrev pub IsSwept : Path → Files → Type 0
IsSwept path t = (place : Path) → place ≢ [] → is_prefix place path ≡ true → IsAbsentIn (places t) (staging_of place)

-- ---- intermediate states, timestamps and staging names left out

-- At the path q there is what was there before. Or q is above the path, nothing was there, and the new parent is
-- there.
pub data IsPreparing (path q : Path) (old new : Option Object) : Type 0 where
  kept : new ≡ old → IsPreparing path q old new
  parent : IsAbove q path → old ≡ None → new ≡ Some (object_state (new_object parent_file 0)) → IsPreparing path q old new

-- An intermediate state of preparing: this holds at each path that has no staging name. Timestamps are left out.
abbrev pub Preparing : Path → Files → Files → Type 0
Preparing path t u = (q : Path) → has_staging q ≡ false → IsPreparing path q (object_states (places t) q) (object_states (places u) q)

-- A step removes something at or below a staging path along the path, or it belongs to making a parent where nothing
-- was.
pub data IsPrepareStep (path : Path) (t : Files) (step : Step) : Type 0 where
  sweeps : Removes (is_under_any (staging_names path)) step → IsPrepareStep path t step
  puts : (place : Path) → IsAbove place path → IsAbsentIn (places t) place → IsPutStep place parent_file step → IsPrepareStep path t step
