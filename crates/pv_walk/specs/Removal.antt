-- Removal of what is below a path, and the intermediate states of publishing what is staged for a path (unlink(2),
-- rmdir(2), rename(2)).
use Rattle.std.specs.Prelude.{◌≡◌, ◌⊎◌, ℕ, Bool, false, not, ◌&&◌, List, [], ◌∷◌, ◌++◌, length, filter, take, None, option_map, if◌then◌else◌}
use Rattle.std.specs.List.{list_any}
use Rattle.std.specs.Option.{option_map_or}
use Rattle.std.specs.FinMap as fin
use Rattle.pv_path.specs.Paths.{Path, is_prefix, same_path, staging_of}
use Rattle.pv_steps.specs.declared.step.Step.{Step}
use Rattle.pv_steps.specs.declared.step.Step.TheVariants.{Unlink, RemoveDir}
use Rattle.pv_steps.specs.declared.object.Object.{Object}
use Rattle.pv_steps.specs.Objects.{is_directory}
use Rattle.pv_steps.specs.declared.node.Kind.TheVariants.{Directory}
use Rattle.pv_steps.specs.Trees.{Files, Places, places, kind_of, names_below, IsKind}
use Rattle.pv_steps.specs.Steps.{Yields, gone, moved}
use Rattle.pv_steps.specs.Same.{object_states}
use Rattle.pv_walk.specs.Edits.{Pruned}

-- Whether the second path is below the first.
abbrev pub is_below : Path → Path → Bool
is_below path q = is_prefix path q && not (same_path path q)

-- The step that removes the object at a path: RemoveDir for a directory, otherwise Unlink.
abbrev pub removal : Bool → Path → Step
removal directory path = if directory then RemoveDir path else Unlink path

-- Whether there is a directory at a path.
abbrev pub is_directory_at : Places → Path → Bool
is_directory_at t path = option_map_or is_directory (kind_of (t path)) false

-- The step that removes the object at a path of a tree.
abbrev pub removal_at : Files → Path → Step
removal_at files path = removal (is_directory_at (places files) path) path

-- How many objects are below a path.
abbrev pub count_below : Files → Path → ℕ
count_below files path = length (filter (is_below path) (fin.keys files))

-- Whether a path is one of these.
abbrev pub is_one_of : List Path → Path → Bool
is_one_of paths q = list_any (λ p. same_path p q) paths

-- Whether one of the children of a path goes.
abbrev pub loses_child : (Path → Bool) → Files → Path → Bool
loses_child goes files q = list_any (λ name. goes (q ++ name ∷ [])) (names_below files q)

-- The steps recorded since are a prefix of this list.
abbrev pub DonePart : List Step → List Step → List Step → Type 0
DonePart all before behind = (n : ℕ) × (behind ≡ before ++ take n all)

-- The objects after some paths have gone. A directory that stays and has lost a child is changed by `change`.
abbrev pub without : (Path → Bool) → (Object → Object) → Files → Places
without goes change files = λ q.
    if goes q then None
    else if loses_child goes files q then option_map change (places files q)
    else places files q

-- An intermediate state of clearing a path for what is staged for it. Timestamps are left out.
pub record Clearing (path : Path) (t u : Files) : Type 0 where
  -- Only objects at and below the path may be gone.
  pub pruned : Pruned (is_prefix path) t u
  -- If a directory replaces a directory, the old one stays.
  pub stays : IsKind Directory t (staging_of path) → IsKind Directory t path → object_states (places u) path ≡ object_states (places t) path
  -- If one Rename can replace what is there, no object has changed.
  pub needed : Yields (places t) (staging_of path) path → (q : Path) → object_states (places u) q ≡ object_states (places t) q

-- An intermediate state of publishing: the path is being cleared, or what was staged for it has been renamed into
-- place. Timestamps are left out.
abbrev pub Publishing : ℕ → Path → Files → Files → Type 0
Publishing now path t u =
    Clearing path t u ⊎ ((q : Path) → object_states (places u) q ≡ object_states (moved now (staging_of path) path (places t)) q)

-- Nothing was done, or the object at a path was removed.
abbrev pub MayHaveGone : ℕ → Path → Files → Files → Type 0
MayHaveGone now path t u = (u ≡ t) ⊎ (places u ≡ gone now path (places t))

-- Nothing was done, or what was staged for a path was renamed into place.
abbrev pub MayHaveMoved : ℕ → Path → Files → Files → Type 0
MayHaveMoved now path t u = (u ≡ t) ⊎ (places u ≡ moved now (staging_of path) path (places t))
