-- Putting a subtree at a path where something may be. The subtree is complete at the staging path before anything is
-- removed. What one Rename can replace stays until that Rename (rename(2)).
use Rattle.std.specs.Prelude.{◌≡◌, ◌⊎◌, true, false, [], ◌++◌, Some, option_map}
use Rattle.pv_walk.specs.declared.object_state.ObjectState.{ObjectState}
use Rattle.pv_walk.specs.Nodes.{object_state_of, object_states_of}
use Rattle.pv_path.specs.Paths.{Path, is_prefix, has_staging, staging_of}
use Rattle.pv_steps.specs.declared.node.Kind.TheVariants.{Directory}
use Rattle.pv_steps.specs.Same.{Same, object_states}
use Rattle.pv_steps.specs.Steps.{Yields}
use Rattle.pv_steps.specs.Trees.{Files, places, IsKind, IsAbsentIn}
use Rattle.pv_walk.specs.declared.new_file.NewFile.{NewFile}
use Rattle.pv_walk.specs.Copying.{Subtree, single, with_subtree}
use Rattle.pv_walk.specs.Staging.{new_object}

-- A subtree is complete at the staging path of a path. Timestamps are left out.
abbrev pub IsStaged : Path → Subtree → Files → Type 0
IsStaged path subtree u = (rest : Path) → object_states_of (places u) (staging_of path ++ rest) ≡ subtree rest

-- Once the subtree is staged, one Rename can replace the object at the path by it.
abbrev pub CanReplace : Path → Subtree → Files → Type 0
CanReplace path subtree t = Yields (with_subtree 0 (staging_of path) subtree (places t)) (staging_of path) path

-- A directory replaces a directory.
pub record AreDirectories (path : Path) (subtree : Subtree) (t : Files) : Type 0 where
  pub top : option_map (λ (b : ObjectState). b.body.kind) (subtree []) ≡ Some Directory
  pub there : IsKind Directory t path

-- What is at the path is being removed, and the subtree is complete at the staging path.
pub record IsMakingWay (path : Path) (subtree : Subtree) (t u : Files) : Type 0 where
  pub staged : IsStaged path subtree u
  -- If one Rename can replace what is there, nothing has been removed: the tree is the same as before.
  pub needed : CanReplace path subtree t → Same t u
  -- If a directory replaces a directory, the old one stays, and only what is below it is removed.
  pub stays : AreDirectories path subtree t → object_states (places u) path ≡ object_states (places t) path
  -- At each path that has no staging name, nothing has changed, or the path is at or below this one and its object is
  -- gone.
  pub parts : (q : Path) → has_staging q ≡ false → (object_states (places u) q ≡ object_states (places t) q) ⊎ ((is_prefix path q ≡ true) × IsAbsentIn (places u) q)

-- An intermediate state of replacing, at each path that has no staging name. Nothing has changed, what was at the
-- path is being removed, or the subtree is there. Timestamps are left out.
pub data Replacing (path : Path) (subtree : Subtree) (t u : Files) : Type 0 where
  before : Same t u → Replacing path subtree t u
  making_way : IsMakingWay path subtree t u → Replacing path subtree t u
  come : ((q : Path) → has_staging q ≡ false → object_states (places u) q ≡ object_states (with_subtree 0 path subtree (places t)) q) → Replacing path subtree t u

-- A new object with nothing below it, without its timestamps.
abbrev pub new_subtree : NewFile → Subtree
new_subtree file = single (object_state_of (new_object file 0))
